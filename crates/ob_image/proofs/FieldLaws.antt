-- The readers of fields, and their spellings.
use Rattle.std.proofs.Common.{◌≡◌, ℕ, zero, suc, ◌-◌, ◌<◌, ◌≤◌, List, [], ◌∷◌, ◌++◌, length, get_or, take, drop, Ok, refl, sym, ap, subst, ◌∙◌, arith, inl, inr, eqb, eq-eqb}
use Rattle.std.specs.Prelude.{◌==◌}
use Rattle.std.proofs.lemmas.Bool.{cases_lt, eqb-true, eqb-false}
use Rattle.std.proofs.lemmas.List.{take-append-drop, length-take-le}
use Rattle.ob_words.specs.Fields.{low_bytes}
use Rattle.ob_image.specs.Layout.{any_word, any_number}
use Rattle.ob_image.specs.Reading.{gives, exactly, number, given, ◌>>=◌}
use Rattle.ob_image.specs.Spelling.{EndsNonzero}
use Rattle.ob_image.proofs.Givens.{given_short, given_zero, given_all}
use Rattle.ob_image.proofs.Readers.{IsBytes, IsBytes-front, IsReader, one_reader, then_reader, gives_reader, done, ok_is, yes, no, tested}
use Rattle.ob_image.proofs.Spellings.{IsSpelled, then_sound, then_again, number_spelled, one_spelled}

pub word_spelled : IsSpelled (number 4 any_word) (λ n. n ≤ any_word) (low_bytes 4)
word_spelled = number_spelled 4 any_word (omega arith)

pub long_spelled : IsSpelled (number 8 any_number) (λ n. n ≤ any_number) (low_bytes 8)
long_spelled = number_spelled 8 any_number (omega arith)

pub byte_field : (limit : ℕ) → limit < 256 → IsSpelled (number 1 limit) (λ n. n ≤ limit) (low_bytes 1)
byte_field limit small = number_spelled 1 limit small

pub word_field : (limit : ℕ) → limit < 4294967296 → IsSpelled (number 4 limit) (λ n. n ≤ limit) (low_bytes 4)
word_field limit small = number_spelled 4 limit small

pub long_field : (limit : ℕ) → limit < 18446744073709551616 → IsSpelled (number 8 limit) (λ n. n ≤ limit) (low_bytes 8)
long_field limit small = number_spelled 8 limit small

-- ---- these bytes

pub exactly_spelled : (text : List ℕ) → IsBytes text → IsSpelled (exactly text) (λ xs. xs ≡ text) (λ xs. xs)
unfolding exactly gives
exactly_spelled [] small = record {
  sound = λ bytes xs rest fits e. subst (λ (p : List ℕ × List ℕ). (p.0 ≡ []) × (bytes ≡ p.0 ++ p.1)) (ok_is ([], bytes) (xs, rest) e) (refl, refl);
  again = λ xs rest is. ap (λ (l : List ℕ). done ([], l ++ rest)) is ∙ ap (λ (l : List ℕ). done (l, rest)) (sym is);
}
exactly_spelled (t ∷ text) small = record {
  sound = λ bytes xs rest fits e.
      let a = then_sound (one_spelled (λ c. c == t)) bytes xs rest fits e in
      let b = then_sound (exactly_spelled text small.1) a.middle xs rest a.are_bytes a.goes in
      let first : a.value ≡ t = eqb-true a.value t a.is.0 in
      subst (λ (p : List ℕ × List ℕ). (p.0 ≡ t ∷ text) × (bytes ≡ p.0 ++ p.1)) (ok_is (a.value ∷ b.value, b.middle) (xs, rest) b.goes)
      ((λ i. first i ∷ b.is i), a.parts ∙ ap (λ (l : List ℕ). a.value ∷ l) b.parts);
  again = λ xs rest is.
      ap (λ (l : List ℕ). exactly (t ∷ text) (l ++ rest)) is
      ∙ then_again (λ first. exactly text >>= λ others. gives (first ∷ others)) (one_spelled (λ c. c == t)) t (text ++ rest) (eq-eqb t t refl, small.0)
      ∙ then_again (λ others. gives (t ∷ others)) (exactly_spelled text small.1) text rest refl
      ∙ ap (λ (l : List ℕ). done (l, rest)) (sym is);
}

-- ---- given bytes

pub given_reader : (n : ℕ) → IsReader (given n)
unfolding given
given_reader zero = gives_reader []
given_reader (suc zero) = then_reader (one_reader (record { byte = 1; fits = omega arith; passes = refl })) (λ last. gives_reader (last ∷ []))
given_reader (suc (suc n)) =
    then_reader (one_reader (record { byte = 0; fits = omega arith; passes = refl })) (λ first. then_reader (given_reader (suc n)) (λ others. gives_reader (first ∷ others)))

pub record IsGiven (n : ℕ) (xs : List ℕ) : Type 0 where
  pub count : length xs ≡ n
  pub are_bytes : IsBytes xs
  pub last : EndsNonzero xs

given_sound : (n : ℕ) (bytes : List ℕ) (xs rest : List ℕ) → IsBytes bytes → given n bytes ≡ Ok (xs, rest) → IsGiven n xs × (bytes ≡ xs ++ rest)
given_sound n bytes xs rest fits e =
    elim (cases_lt (length bytes) n) [
      | inl short ↦ let g = sym (given_short n bytes short) ∙ e in absurd cc
      | inr long ↦
          let text = take n bytes in
          let behind = drop n bytes in
          let whole : text ++ behind ≡ bytes = take-append-drop n bytes in
          let len : length text ≡ n = length-take-le n bytes long in
          let split : given (length text) (text ++ behind) ≡ Ok (xs, rest) = ap (λ (k : ℕ). given k (text ++ behind)) len ∙ ap (given n) whole ∙ e in
          elim (tested (eqb (get_or text (length text - 1) 0) 0)) [
            | yes z ↦
                elim (cases_lt 0 (length text)) [
                  | inl some ↦ let g = sym (given_zero text behind some (eqb-true _ 0 z)) ∙ split in absurd cc
                  | inr none ↦ made text behind xs rest bytes n len whole fits (λ some. absurd (omega arith)) split
                ]
            | no z ↦ made text behind xs rest bytes n len whole fits (λ some. eqb-false (get_or text (length text - 1) 0) 0 z) split
          ]
    ] where
      made : (text behind xs rest bytes : List ℕ) (n : ℕ) → length text ≡ n → text ++ behind ≡ bytes → IsBytes bytes → EndsNonzero text → given (length text) (text ++ behind) ≡ Ok (xs, rest)
          → IsGiven n xs × (bytes ≡ xs ++ rest)
      made text behind xs rest bytes n len whole fits well split =
          subst (λ (p : List ℕ × List ℕ). IsGiven n p.0 × (bytes ≡ p.0 ++ p.1)) (ok_is (text, behind) (xs, rest) (sym (given_all text behind well) ∙ split))
          (record { count = len; are_bytes = IsBytes-front text behind (subst IsBytes (sym whole) fits); last = well }, sym whole)

pub given_spelled : (n : ℕ) → IsSpelled (given n) (IsGiven n) (λ xs. xs)
given_spelled n = record {
  sound = given_sound n;
  again = λ xs rest is. ap (λ (k : ℕ). given k (xs ++ rest)) (sym is.count) ∙ given_all xs rest is.last;
}
