-- Numbers from 1 up to a limit, and what is read from a number.
use Rattle.std.proofs.Common.{◌≡◌, ℕ, ◌<◌, ◌≤◌, ◌/◌, ◌%◌, List, [], ◌∷◌, ◌++◌, refl, sym, ap, subst, ◌∙◌, append_assoc, arith}
use Rattle.std.specs.Prelude.{◌&&◌, nat_le}
use Rattle.std.proofs.lemmas.Bool.{leb-true, le-leb}
use Rattle.ob_words.specs.Fields.{low_bytes}
use Rattle.ob_image.specs.Reading.{Reader, one, gives, number, from_one, choice, ◌>>=◌}
use Rattle.ob_image.proofs.Digits.{byte_is}
use Rattle.ob_image.proofs.Readers.{IsReader, one_reader, then_reader, gives_reader, number_reader, done, ok_is, one_passes}
use Rattle.ob_image.proofs.Spellings.{IsSpelled, then_sound, then_again, along, one_sound, number_spelled}
use Rattle.ob_image.proofs.Tests.{both, both_are}

abbrev pub IsFromOne : ℕ → ℕ → Type 0
IsFromOne limit n = (1 ≤ n) × (n ≤ limit)

pub from_one_spelled : (limit : ℕ) → limit < 256 → IsSpelled (from_one limit) (IsFromOne limit) (low_bytes 1)
unfolding from_one
from_one_spelled limit small = record {
  sound = λ bytes x rest fits e.
      let s = one_sound (λ b. nat_le 1 b && nat_le b limit) bytes x rest fits e in
      let t = both (nat_le 1 x) (nat_le x limit) s.0.0 in
      ((leb-true 1 x t.0, leb-true x limit t.1), s.1 ∙ ap (λ (l : List ℕ). l ++ rest) (byte_is x s.0.1));
  again = λ x rest is.
      let fits : x < 256 = omega (arith, is.1, small) in
      ap (λ (l : List ℕ). one (λ b. nat_le 1 b && nat_le b limit) (l ++ rest)) (sym (byte_is x fits))
      ∙ one_passes (λ b. nat_le 1 b && nat_le b limit) x rest (both_are (nat_le 1 x) (nat_le x limit) (le-leb 1 x is.0) (le-leb x limit is.1));
}

pub from_one_reader : (limit : ℕ) → 1 ≤ limit → IsReader (from_one limit)
unfolding from_one
from_one_reader limit some = one_reader (record { byte = 1; fits = omega arith; passes = both_are (nat_le 1 1) (nat_le 1 limit) refl (le-leb 1 limit some) })

pub choice_reader : (limit : ℕ) → 1 ≤ limit → IsReader (choice limit)
unfolding choice
choice_reader limit some = then_reader (from_one_reader limit some) (λ low. then_reader (number_reader 3 0) (λ zeros. gives_reader low))

four : (n : ℕ) → n < 256 → low_bytes 4 n ≡ low_bytes 1 n ++ low_bytes 3 0
unfolding low_bytes
four n h = let none : n / 256 ≡ 0 = omega arith in ap (λ (m : ℕ). n % 256 ∷ low_bytes 3 m) none

zeros_spelled : IsSpelled (number 3 0) (λ n. n ≤ 0) (low_bytes 3)
zeros_spelled = number_spelled 3 0 (omega arith)

pub choice_spelled : (limit : ℕ) → limit < 256 → IsSpelled (choice limit) (IsFromOne limit) (low_bytes 4)
unfolding choice gives
choice_spelled limit small = record {
  sound = λ bytes x rest fits e.
      let a = then_sound (from_one_spelled limit small) bytes x rest fits e in
      let b = then_sound zeros_spelled a.middle x rest a.are_bytes a.goes in
      let none : b.value ≡ 0 = omega (arith, b.is) in
      let text : bytes ≡ low_bytes 4 a.value ++ b.middle =
      a.parts ∙ along (low_bytes 1 a.value) _ _ (b.parts ∙ ap (λ (n : ℕ). low_bytes 3 n ++ b.middle) none) ∙ sym (append_assoc (low_bytes 1 a.value) (low_bytes 3 0) b.middle)
      ∙ ap (λ (l : List ℕ). l ++ b.middle) (sym (four a.value (omega (arith, a.is.1, small)))) in
      subst (λ (p : ℕ × List ℕ). IsFromOne limit p.0 × (bytes ≡ low_bytes 4 p.0 ++ p.1)) (ok_is (a.value, b.middle) (x, rest) b.goes) (a.is, text);
  again = λ x rest is.
      ap (λ (l : List ℕ). choice limit (l ++ rest)) (four x (omega (arith, is.1, small))) ∙ ap (choice limit) (append_assoc (low_bytes 1 x) (low_bytes 3 0) rest)
      ∙ then_again (λ low. number 3 0 >>= λ zeros. gives low) (from_one_spelled limit small) x (low_bytes 3 0 ++ rest) is
      ∙ then_again (λ zeros. gives x) zeros_spelled 0 rest (omega arith);
}

-- a value that is read from another one
pub mapped_spelled : {A B : Type 0} {read : Reader A} {Is : A → Type 0} {spell : A → List ℕ} (f : A → B) (g : B → A) → IsSpelled read Is spell → ((x : A) → Is x → g (f x) ≡ x) → ((y : B) → f (g y) ≡ y)
    → IsSpelled (read >>= λ x. gives (f x)) (λ y. Is (g y)) (λ y. spell (g y))
unfolding gives
mapped_spelled {A = A} {B = B} {Is = Is} {spell = spell} f g spelled back out = record {
  sound = λ bytes y rest fits e.
      let a = then_sound spelled bytes y rest fits e in
      let same = sym (back a.value a.is) in
      subst (λ (p : B × List ℕ). Is (g p.0) × (bytes ≡ spell (g p.0) ++ p.1)) (ok_is (f a.value, a.middle) (y, rest) a.goes)
      (subst Is same a.is, a.parts ∙ ap (λ (x : A). spell x ++ a.middle) same);
  again = λ y rest is. then_again (λ x. gives (f x)) spelled (g y) rest is ∙ ap (λ (z : B). done (z, rest)) (out y);
}

-- nothing is read
pub gives_spelled : {A : Type 0} (x : A) → IsSpelled (gives x) (λ y. y ≡ x) (λ y. [])
unfolding gives
gives_spelled {A = A} x = record {
  sound = λ bytes y rest fits e. subst (λ (p : A × List ℕ). (p.0 ≡ x) × (bytes ≡ p.1)) (ok_is (x, bytes) (y, rest) e) (refl, refl);
  again = λ y rest is. ap (λ (z : A). done (z, rest)) (sym is);
}
