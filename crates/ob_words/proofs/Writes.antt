-- What a write to a field leaves, and fields as numbers to the base 256.
use Rattle.std.proofs.Common.{◌≡◌, ℕ, zero, suc, ◌+◌, ◌-◌, ◌*◌, ◌/◌, ◌%◌, ◌^◌, ◌<◌, ◌≤◌, List, [], ◌∷◌, ◌++◌, length, take, drop, refl, sym, ap, subst, ◌∙◌, arith, ⊎_elim, lit<, pow-suc, length-take, length-drop}
use Rattle.std.specs.Prelude.{slice_range, ◌⊎◌, All}
use Rattle.std.proofs.lemmas.List.{drop-drop, take-append-drop, length-append}
use Rattle.std.proofs.lemmas.List.Elements.{All-head, All-tail, All-take, All-drop}
use Rattle.std.proofs.lemmas.Slice.{between_is, between-put_mid, take-put_mid_below, drop-put_mid}
use lib.Arith.{mod-mul}
use borrow.Rule.Slice.PartMut.{put_mid}
use Rattle.ob_words.specs.Fields.{from_bytes, low_bytes, field_at, with_field, IsByte}

-- ---- numbers to the base 256

pow_pos_256 : (k : ℕ) → 0 < 256 ^ k
pow_pos_256 zero = lit< tt
pow_pos_256 (suc k) = omega (arith, pow-suc 256 k, pow_pos_256 k)

pub length-low_bytes : (k w : ℕ) → length (low_bytes k w) ≡ k
unfolding low_bytes
length-low_bytes zero w = refl
length-low_bytes (suc k) w = ap suc (length-low_bytes k (w / 256))

pub from_bytes-low_bytes : (k w : ℕ) → from_bytes (low_bytes k w) ≡ w % 256 ^ k
unfolding from_bytes low_bytes
from_bytes-low_bytes zero w = omega arith
from_bytes-low_bytes (suc k) w =
    let base : 0 < 256 = lit< tt in
    let split = mod-mul w (pow_pos_256 k) base in
    let power = ap (λ m. w % m) (pow-suc 256 k) in
    omega (arith, from_bytes-low_bytes k (w / 256), split, power)

pub low_bytes-from_bytes : (xs : List ℕ) → All IsByte xs → low_bytes (length xs) (from_bytes xs) ≡ xs
unfolding from_bytes low_bytes
low_bytes-from_bytes [] h = refl
low_bytes-from_bytes (b ∷ bs) h =
    let small : b < 256 = All-head IsByte b bs h in
    let v = from_bytes bs in
    let low : (b + 256 * v) % 256 ≡ b = omega arith in
    let high : (b + 256 * v) / 256 ≡ v = omega arith in
    (λ i. low i ∷ low_bytes (length bs) (high i)) ∙ ap (λ zs. b ∷ zs) (low_bytes-from_bytes bs (All-tail IsByte b bs h))

pub from_bytes-below : (xs : List ℕ) → All IsByte xs → from_bytes xs < 256 ^ length xs
unfolding from_bytes
from_bytes-below [] h = lit< tt
from_bytes-below (b ∷ bs) h =
    let small : b < 256 = All-head IsByte b bs h in
    omega (arith, pow-suc 256 (length bs), from_bytes-below bs (All-tail IsByte b bs h))

-- ---- writes

mid : (bytes : List ℕ) (at size w : ℕ) → with_field bytes at size w ≡ put_mid at size bytes (low_bytes size w)
mid bytes at size w = ap (λ zs. take at bytes ++ (low_bytes size w ++ zs)) (sym (drop-drop size at bytes))

-- what was put is read again
pub put_then_get : (bytes : List ℕ) (at size w : ℕ) → at + size ≤ length bytes → field_at (with_field bytes at size w) at size ≡ w % 256 ^ size
put_then_get bytes at size w h =
    let low = low_bytes size w in
    let whole : length low ≡ at + size - at = omega (arith, length-low_bytes size w) in
    ap (λ xs. field_at xs at size) (mid bytes at size w)
    ∙ ap from_bytes (between-put_mid at size bytes low (at + size) (omega arith) whole)
    ∙ from_bytes-low_bytes size w

kept_before : (bytes : List ℕ) (at size w i j : ℕ) → at + size ≤ length bytes → j ≤ at → slice_range (with_field bytes at size w) i j ≡ slice_range bytes i j
kept_before bytes at size w i j h b =
    ap (λ xs. slice_range xs i j) (mid bytes at size w)
    ∙ between_is (put_mid at size bytes (low_bytes size w)) i j
    ∙ ap (drop i) (take-put_mid_below at size bytes (low_bytes size w) j b (omega arith))
    ∙ sym (between_is bytes i j)

kept_after : (bytes : List ℕ) (at size w i j : ℕ) → at + size ≤ length bytes → at + size ≤ i → slice_range (with_field bytes at size w) i j ≡ slice_range bytes i j
kept_after bytes at size w i j h b =
    ap (λ xs. slice_range xs i j) (mid bytes at size w)
    ∙ ap (take (j - i)) (drop-put_mid at size bytes (low_bytes size w) i b (omega arith) (length-low_bytes size w))

-- what doesn't meet the field is kept
pub kept_apart : (bytes : List ℕ) (at size w i j : ℕ) → at + size ≤ length bytes → (j ≤ at) ⊎ (at + size ≤ i) → slice_range (with_field bytes at size w) i j ≡ slice_range bytes i j
kept_apart bytes at size w i j h = ⊎_elim (kept_before bytes at size w i j h) (kept_after bytes at size w i j h)

pub length-with_field : (bytes : List ℕ) (at size w : ℕ) → at + size ≤ length bytes → length (with_field bytes at size w) ≡ length bytes
length-with_field bytes at size w h =
    omega (arith, length-append (take at bytes) (low_bytes size w ++ drop (at + size) bytes), length-append (low_bytes size w) (drop (at + size) bytes), length-take at bytes, length-drop (at + size) bytes, length-low_bytes size w)

-- to put what was read changes nothing
pub get_then_put : (bytes : List ℕ) (at size : ℕ) → All IsByte bytes → at + size ≤ length bytes → with_field bytes at size (field_at bytes at size) ≡ bytes
get_then_put bytes at size each h =
    let xs = slice_range bytes at (at + size) in
    let within : All IsByte xs = All-take IsByte (at + size - at) (drop at bytes) (All-drop IsByte at bytes each) in
    let long : length xs ≡ size = omega (arith, length-take (at + size - at) (drop at bytes), length-drop at bytes) in
    let same : low_bytes size (from_bytes xs) ≡ xs = ap (λ k. low_bytes k (from_bytes xs)) (sym long) ∙ low_bytes-from_bytes xs within in
    let some : at + size - at ≡ size = omega arith in
    let rest = sym (drop-drop size at bytes) in
    ap (λ ys. take at bytes ++ (ys ++ drop (at + size) bytes)) same
    ∙ (λ i. take at bytes ++ (take (some i) (drop at bytes) ++ rest i))
    ∙ ap (λ ys. take at bytes ++ ys) (take-append-drop size (drop at bytes))
    ∙ take-append-drop at bytes

pub field-below : (bytes : List ℕ) (at size : ℕ) → All IsByte bytes → at + size ≤ length bytes → field_at bytes at size < 256 ^ size
field-below bytes at size each h =
    let xs = slice_range bytes at (at + size) in
    let within : All IsByte xs = All-take IsByte (at + size - at) (drop at bytes) (All-drop IsByte at bytes each) in
    let long : length xs ≡ size = omega (arith, length-take (at + size - at) (drop at bytes), length-drop at bytes) in
    subst (λ k. from_bytes xs < 256 ^ k) long (from_bytes-below xs within)
