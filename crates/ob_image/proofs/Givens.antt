-- The given bytes of a static object: so many, of which the last isn't 0.
use Rattle.std.proofs.Common.{◌≡◌, ℕ, zero, suc, ◌+◌, ◌-◌, ◌<◌, ◌≤◌, List, [], ◌∷◌, ◌++◌, length, get_or, take, drop, Result, Ok, Err, refl, sym, ap, ◌∙◌, arith, eq-eqb}
use Rattle.std.proofs.lemmas.Bool.{ne_eqb}
use Rattle.std.proofs.lemmas.List.{take-append-drop, length-take-le}
use Rattle.ob_image.specs.Reading.{one, gives, given}
use Rattle.ob_image.proofs.Digits.{with_first, chained_first}

given_more : (n b : ℕ) (bytes : List ℕ) → given (suc (suc n)) (b ∷ bytes) ≡ with_first b (given (suc n) bytes)
unfolding given one
given_more n b bytes = chained_first b (given (suc n) bytes)

given_none : (n : ℕ) → given (suc n) [] ≡ Err 0
unfolding given one
given_none zero = refl
given_none (suc n) = refl

last_zero : (b : ℕ) (bytes : List ℕ) → b ≡ 0 → given 1 (b ∷ bytes) ≡ Err (suc (length bytes))
unfolding given one
last_zero b bytes e = rw (eq-eqb b 0 e) refl

last_is : (b : ℕ) (bytes : List ℕ) → (b ≡ 0 → ⊥) → given 1 (b ∷ bytes) ≡ Ok (b ∷ [], bytes)
unfolding given one gives
last_is b bytes e = rw (ne_eqb b 0 e) refl

pub given_short : (n : ℕ) (bytes : List ℕ) → length bytes < n → given n bytes ≡ Err 0
given_short zero bytes short = absurd (omega arith)
given_short (suc n) [] short = given_none n
given_short (suc zero) (b ∷ bytes) short = absurd (omega arith)
given_short (suc (suc n)) (b ∷ bytes) short = given_more n b bytes ∙ ap (with_first b) (given_short (suc n) bytes (omega arith))

pub given_zero : (text rest : List ℕ) → 0 < length text → get_or text (length text - 1) 0 ≡ 0 → given (length text) (text ++ rest) ≡ Err (suc (length rest))
given_zero [] rest some ends = absurd (omega arith)
given_zero (b ∷ []) rest some ends = last_zero b rest ends
given_zero (b ∷ c ∷ text) rest some ends =
    let place : suc (suc (length text)) - 1 ≡ suc (length text) = omega arith in
    let inner : suc (length text) - 1 ≡ length text = omega arith in
    given_more (length text) b (c ∷ (text ++ rest))
    ∙ ap (with_first b) (given_zero (c ∷ text) rest (omega arith) (ap (λ (k : ℕ). get_or (c ∷ text) k 0) inner ∙ sym (ap (λ (k : ℕ). get_or (b ∷ c ∷ text) k 0) place) ∙ ends))

pub given_all : (text rest : List ℕ) → (0 < length text → get_or text (length text - 1) 0 ≡ 0 → ⊥) → given (length text) (text ++ rest) ≡ Ok (text, rest)
unfolding given gives
given_all [] rest well = refl
given_all (b ∷ []) rest well = last_is b rest (well (omega arith))
given_all (b ∷ c ∷ text) rest well =
    let place : suc (suc (length text)) - 1 ≡ suc (length text) = omega arith in
    let inner : suc (length text) - 1 ≡ length text = omega arith in
    given_more (length text) b (c ∷ (text ++ rest))
    ∙ ap (with_first b)
    (given_all (c ∷ text) rest (λ some ends. well (omega arith) (ap (λ (k : ℕ). get_or (b ∷ c ∷ text) k 0) place ∙ sym (ap (λ (k : ℕ). get_or (c ∷ text) k 0) inner) ∙ ends)))

-- the same of the bytes that the code splits
pub split_zero : (n : ℕ) (bytes text rest : List ℕ) → text ≡ take n bytes → rest ≡ drop n bytes → n ≤ length bytes
    → 0 < length text → get_or text (length text - 1) 0 ≡ 0 → given n bytes ≡ Err (length rest + 1)
split_zero n bytes text rest front back long some ends =
    let len : length text ≡ n = ap length front ∙ length-take-le n bytes long in
    let whole : text ++ rest ≡ bytes = rw (front, back) (take-append-drop n bytes) in
    let plus : suc (length rest) ≡ length rest + 1 = omega arith in
    ap (λ (k : ℕ). given k bytes) (sym len) ∙ ap (given (length text)) (sym whole) ∙ given_zero text rest some ends ∙ ap (λ (k : ℕ). failed k) plus where
      failed : ℕ → Result (List ℕ × List ℕ) ℕ
      failed k = Err k

pub split_all : (n : ℕ) (bytes text rest : List ℕ) → text ≡ take n bytes → rest ≡ drop n bytes → n ≤ length bytes
    → (0 < length text → get_or text (length text - 1) 0 ≡ 0 → ⊥) → given n bytes ≡ Ok (text, rest)
split_all n bytes text rest front back long well =
    let len : length text ≡ n = ap length front ∙ length-take-le n bytes long in
    let whole : text ++ rest ≡ bytes = rw (front, back) (take-append-drop n bytes) in
    ap (λ (k : ℕ). given k bytes) (sym len) ∙ ap (given (length text)) (sym whole) ∙ given_all text rest well
