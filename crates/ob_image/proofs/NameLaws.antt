-- Names of so many bytes. A text of letters, digits and `_` that ends with `_` is no reserved word, so each front of such a text is the
-- front of a name that is as long.
use Rattle.std.proofs.Common.{◌≡◌, ℕ, zero, suc, ◌<◌, ◌≤◌, Bool, true, false, List, [], ◌∷◌, ◌++◌, length, Ok, refl, sym, ap, subst, ◌∙◌, arith, inl, inr}
use Rattle.std.specs.Prelude.{◌==◌, ◌||◌, ◌&&◌, ◌⊎◌, not, nat_le}
use Rattle.std.specs.List.{AllByRecursion, flat_map, list_all, list_any}
use Rattle.std.specs.Str.{bytes_eq}
use Rattle.std.proofs.lemmas.Bool.{eqb-true, leb-true}
use Rattle.std.proofs.lemmas.Slice.Eq.{bytes_eq-Decides}
use Rattle.std.proofs.lemmas.List.{append-nil, length-append}
use Rattle.ob_base.specs.Names.{is_within, is_digit, is_letter, is_name_byte, is_reserved, reserved_words, begins_with, IsName}
use Rattle.ob_image.specs.Reading.{one, gives, rows, name_bytes, name, read_if, ◌>>=◌}
use Rattle.ob_image.proofs.Readers.{IsBytes, IsReader, one_reader, then_reader, gives_reader, rows_reader, ok_is, yes, no, tested}
use Rattle.ob_image.proofs.Spellings.{IsSpelled, then_sound, then_again, rows_sound, rows_again, one_spelled}
use Rattle.ob_image.proofs.Tests.{both, both_are, IsFillable, if_reader, if_spelled}

-- ---- the bytes

abbrev IsNameByte : ℕ → Type 0
IsNameByte b = (is_name_byte b ≡ true) × (b < 256)

-- so many bytes that can stand in a name, the first of which is no digit
pub record IsNameText (count : ℕ) (text : List ℕ) : Type 0 where
  pub long : length text ≡ count
  pub first : 0 < count → begins_with is_letter text ≡ true
  pub letters : AllByRecursion IsNameByte text

pub letter_is : (b : ℕ) → is_letter b ≡ true → is_name_byte b ≡ true
unfolding is_name_byte
letter_is b e = rw e refl

-- `_` is a letter, and may stand anywhere in a name
line_letter : is_letter 95 ≡ true
unfolding is_letter
line_letter = refl

line_byte : is_name_byte 95 ≡ true
line_byte = letter_is 95 line_letter

flat : (xs : List ℕ) → flat_map (λ (b : ℕ). b ∷ []) xs ≡ xs
flat [] = refl
flat (x ∷ xs) = ap (λ (l : List ℕ). x ∷ l) (flat xs)

pub bytes_reader : (count : ℕ) → IsReader (name_bytes count)
unfolding name_bytes
bytes_reader zero = gives_reader []
bytes_reader (suc count) =
    then_reader (one_reader (record { byte = 95; fits = omega arith; passes = line_letter })) (λ first.
    then_reader (rows_reader (one is_name_byte) (one_reader (record { byte = 95; fits = omega arith; passes = line_byte })) count) (λ others. gives_reader (first ∷ others)))

others_spelled : (count : ℕ) → IsSpelled (rows (one is_name_byte) count) (λ xs. (length xs ≡ count) × AllByRecursion IsNameByte xs) (λ xs. xs)
others_spelled count = record {
  sound = λ bytes xs rest fits e.
      let s = rows_sound (one is_name_byte) IsNameByte (λ b. b ∷ []) (one_spelled is_name_byte) count bytes xs rest fits e in
      ((s.0, s.1), s.2 ∙ ap (λ (l : List ℕ). l ++ rest) (flat xs));
  again = λ xs rest is.
      ap (λ (l : List ℕ). rows (one is_name_byte) count (l ++ rest)) (sym (flat xs)) ∙ ap (λ (n : ℕ). rows (one is_name_byte) n (flat_map (λ b. b ∷ []) xs ++ rest)) (sym is.0)
      ∙ rows_again (one is_name_byte) IsNameByte (λ b. b ∷ []) (one_spelled is_name_byte) xs rest is.1;
}

bytes_sound : (count : ℕ) (bytes xs rest : List ℕ) → IsBytes bytes → name_bytes count bytes ≡ Ok (xs, rest) → IsNameText count xs × (bytes ≡ xs ++ rest)
unfolding name_bytes gives
bytes_sound zero bytes xs rest fits e =
    subst (λ (p : List ℕ × List ℕ). IsNameText 0 p.0 × (bytes ≡ p.0 ++ p.1)) (ok_is ([], bytes) (xs, rest) e) (record { long = refl; first = λ h. absurd (omega arith); letters = tt }, refl)
bytes_sound (suc count) bytes xs rest fits e =
    let a = then_sound (one_spelled is_letter) bytes xs rest fits e in
    let b = then_sound (others_spelled count) a.middle xs rest a.are_bytes a.goes in
    subst (λ (p : List ℕ × List ℕ). IsNameText (suc count) p.0 × (bytes ≡ p.0 ++ p.1)) (ok_is (a.value ∷ b.value, b.middle) (xs, rest) b.goes) (
      record { long = ap suc b.is.0; first = λ h. a.is.0; letters = ((letter_is a.value a.is.0, a.is.1), b.is.1) },
      a.parts ∙ ap (λ (l : List ℕ). a.value ∷ l) b.parts,
    )

bytes_again : (count : ℕ) (xs rest : List ℕ) → IsNameText count xs → name_bytes count (xs ++ rest) ≡ Ok (xs, rest)
unfolding name_bytes gives
bytes_again zero [] rest is = refl
bytes_again zero (x ∷ xs) rest is = absurd (omega (arith, is.long))
bytes_again (suc count) [] rest is = absurd (omega (arith, is.long))
bytes_again (suc count) (x ∷ xs) rest is =
    then_again (λ first. rows (one is_name_byte) count >>= λ others. gives (first ∷ others)) (one_spelled is_letter) x (xs ++ rest) (is.first (omega arith), is.letters.0.1)
    ∙ then_again (λ others. gives (x ∷ others)) (others_spelled count) xs rest (omega (arith, is.long), is.letters.1)

pub bytes_spelled : (count : ℕ) → IsSpelled (name_bytes count) (IsNameText count) (λ xs. xs)
bytes_spelled count = record { sound = bytes_sound count; again = bytes_again count }

-- ---- what no reserved word ends with

abbrev last_or : ℕ → List ℕ → ℕ
last_or d [] = d
last_or d (x ∷ xs) = last_or x xs

not_end : (n : ℕ) → not (n == 95) ≡ true → n ≡ 95 → ⊥
not_end n e same = let g : not (95 == 95) ≡ true = subst (λ (m : ℕ). not (m == 95) ≡ true) same e in absurd cc

-- no word of the list has the last byte of the text
ends_so : (words : List (List ℕ)) (text : List ℕ) → list_all (λ (word : List ℕ). not (last_or 0 word == 95)) words ≡ true → last_or 0 text ≡ 95 → list_any (bytes_eq text) words ≡ false
ends_so [] text all e = refl
ends_so (w ∷ words) text all e =
    let b = both (not (last_or 0 w == 95)) (list_all (λ (word : List ℕ). not (last_or 0 word == 95)) words) all in
    elim (tested (bytes_eq text w)) [
      | yes t ↦ absurd (not_end (last_or 0 w) b.0 (ap (last_or 0) (sym ((bytes_eq-Decides text w).0 t)) ∙ e))
      | no t ↦ rw t (ends_so words text b.1 e)
    ]

other_end : (text : List ℕ) → last_or 0 text ≡ 95 → is_reserved text ≡ false
other_end text e = ends_so reserved_words text refl e

-- ---- filling a text up

abbrev fill : ℕ → List ℕ
fill zero = []
fill (suc n) = 95 ∷ fill n

last_fill : (d : ℕ) (front : List ℕ) (n : ℕ) → last_or d (front ++ 95 ∷ fill n) ≡ 95
last_fill d [] zero = refl
last_fill d [] (suc n) = last_fill 95 [] n
last_fill d (x ∷ front) n = last_fill x front n

length-fill : (n : ℕ) → length (fill n) ≡ n
length-fill zero = refl
length-fill (suc n) = ap suc (length-fill n)

fill_letters : (n : ℕ) → AllByRecursion IsNameByte (fill n)
fill_letters zero = tt
fill_letters (suc n) = ((line_byte, omega arith), fill_letters n)

all_front : {A : Type 0} (P : A → Type 0) (xs ys : List A) → AllByRecursion P (xs ++ ys) → AllByRecursion P xs
all_front P [] ys h = tt
all_front P (x ∷ xs) ys h = (h.0, all_front P xs ys h.1)

all_append : {A : Type 0} (P : A → Type 0) (xs ys : List A) → AllByRecursion P xs → AllByRecursion P ys → AllByRecursion P (xs ++ ys)
all_append P [] ys h k = k
all_append P (x ∷ xs) ys h k = (h.0, all_append P xs ys h.1 k)

all_bytes : (xs : List ℕ) → AllByRecursion IsNameByte xs → IsBytes xs
all_bytes [] h = tt
all_bytes (x ∷ xs) h = (h.0.1, all_bytes xs h.1)

first_stays : (seen more others : List ℕ) (next : ℕ) → begins_with is_letter (seen ++ next ∷ more) ≡ true → begins_with is_letter (seen ++ 95 ∷ others) ≡ true
first_stays [] more others next e = line_letter
first_stays (s ∷ seen) more others next e = e

filled : (count : ℕ) (seen : List ℕ) (next : ℕ) (more : List ℕ) → IsNameText count (seen ++ next ∷ more) → IsNameText count (seen ++ 95 ∷ fill (length more))
filled count seen next more is = record {
  long = omega (arith, is.long, length-append seen (next ∷ more), length-append seen (95 ∷ fill (length more)), length-fill (length more));
  first = λ some. first_stays seen more (fill (length more)) next (is.first some);
  letters = all_append IsNameByte seen (95 ∷ fill (length more)) (all_front IsNameByte seen (next ∷ more) is.letters) (fill_letters (suc (length more)));
}

name_fillable : (count : ℕ) → IsFillable (name_bytes count) (λ text. not (is_reserved text))
name_fillable count = record {
  fill = λ seen next more x fits e.
      let s = bytes_sound count (seen ++ next ∷ more) x [] fits e in
      let whole : x ≡ seen ++ next ∷ more = sym (s.1 ∙ append-nil x) in
      let text = seen ++ 95 ∷ fill (length more) in
      let is : IsNameText count text = filled count seen next more (subst (IsNameText count) whole s.0) in
      record {
        next = 95;
        more = fill (length more);
        value = text;
        are_bytes = (omega arith, all_bytes (fill (length more)) (fill_letters (length more)));
        whole = ap (name_bytes count) (sym (append-nil text)) ∙ bytes_again count text [] is;
        passes = ap not (other_end text (last_fill 0 seen (length more)));
      };
  none = λ x rest fits e.
      let s = bytes_sound count rest x rest fits e in
      let short : length x ≡ 0 = omega (arith, ap length s.1, length-append x rest) in
      subst (λ (t : List ℕ). not (is_reserved t) ≡ true) (sym (no_length x short)) refl;
} where
  no_length : (xs : List ℕ) → length xs ≡ 0 → xs ≡ []
  no_length [] e = refl
  no_length (x ∷ xs) e = absurd (omega (arith, e))

-- ---- names

pub name_reader : (count : ℕ) → IsReader (name count)
unfolding name
name_reader count = if_reader (bytes_reader count) (name_fillable count)

pub record IsNameOf (count : ℕ) (text : List ℕ) : Type 0 where
  pub long : length text ≡ count
  pub name : IsName text

letters_as_tested : (xs : List ℕ) → AllByRecursion IsNameByte xs → list_all is_name_byte xs ≡ true
letters_as_tested [] h = refl
letters_as_tested (x ∷ xs) h = both_are (is_name_byte x) (list_all is_name_byte xs) h.0.0 (letters_as_tested xs h.1)

either : (s t : Bool) → (s || t) ≡ true → (s ≡ true) ⊎ (t ≡ true)
either true t e = inl refl
either false true e = inr refl
either false false e = absurd cc

within_most : (low high b : ℕ) → is_within low high b ≡ true → b ≤ high
within_most low high b e = leb-true b high (both (nat_le low b) (nat_le b high) e).1

letter_fits : (b : ℕ) → is_letter b ≡ true → b < 256
unfolding is_letter
letter_fits b e =
    elim (either (is_within 97 122 b) (is_within 65 90 b || b == 95) e) [
      | inl small ↦ omega (arith, within_most 97 122 b small)
      | inr other ↦
          elim (either (is_within 65 90 b) (b == 95) other) [
            | inl large ↦ omega (arith, within_most 65 90 b large)
            | inr line ↦ omega (arith, eqb-true b 95 line)
          ]
    ]

byte_fits : (b : ℕ) → is_name_byte b ≡ true → b < 256
unfolding is_name_byte is_digit
byte_fits b e =
    elim (either (is_letter b) (is_within 48 57 b) e) [
      | inl letter ↦ letter_fits b letter
      | inr digit ↦ omega (arith, within_most 48 57 b digit)
    ]

letters_are : (xs : List ℕ) → list_all is_name_byte xs ≡ true → AllByRecursion IsNameByte xs
letters_are [] e = tt
letters_are (x ∷ xs) e = let b = both (is_name_byte x) (list_all is_name_byte xs) e in ((b.0, byte_fits x b.0), letters_are xs b.1)

pub name_spelled : (count : ℕ) → 0 < count → IsSpelled (name count) (IsNameOf count) (λ xs. xs)
unfolding name
name_spelled count some = record {
  sound = λ bytes x rest fits e.
      let s = spelled.sound bytes x rest fits e in
      let behind = both_are (list_all is_name_byte x) (not (is_reserved x)) (letters_as_tested x s.0.0.letters) s.0.1 in
      (record { long = s.0.0.long; name = both_are (begins_with is_letter x) (list_all is_name_byte x && not (is_reserved x)) (s.0.0.first some) behind }, s.1);
  again = λ x rest is.
      let first = both (begins_with is_letter x) (list_all is_name_byte x && not (is_reserved x)) is.name in
      let behind = both (list_all is_name_byte x) (not (is_reserved x)) first.1 in
      spelled.again x rest (record { long = is.long; first = λ h. first.0; letters = letters_are x behind.0 }, behind.1);
} where
  spelled : IsSpelled (read_if (λ text. not (is_reserved text)) (name_bytes count)) (λ xs. IsNameText count xs × (not (is_reserved xs) ≡ true)) (λ xs. xs)
  spelled = if_spelled (λ text. not (is_reserved text)) (bytes_spelled count)
