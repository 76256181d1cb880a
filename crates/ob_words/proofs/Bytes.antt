-- Little-endian numbers of 1, 2, 4 and 8 bytes.
use Rattle.std.proofs.Common.{◌≡◌, ℕ, suc, ◌+◌, ◌-◌, ◌*◌, ◌/◌, ◌%◌, ◌^◌, ◌<◌, ◌≤◌, List, [], ◌∷◌, ◌++◌, length, take, drop, get_or, set, bit_and, sym, ap, ◌∙◌, arith, ⊎_elim}
use Rattle.std.specs.Prelude.{slice_range}
use Rattle.std.specs.Int.{w16, w32, w64, from_le_bytes, to_le_bytes}
use Rattle.std.proofs.Math.Seq.{drop-cons}
use Rattle.std.proofs.lemmas.List.{set_split, drop-drop}
use Rattle.std.proofs.lemmas.Nat.{and_mask}
use borrow.Rule.Slice.PartMut.{put_mid}
use Rattle.ob_words.specs.Fields.{IsFieldSize, from_bytes, low_bytes, field_at, with_field}

pub from_2 : (xs : List ℕ) → length xs ≡ 2 → from_le_bytes w16 xs ≡ from_bytes xs
unfolding from_bytes
from_2 [] e = absurd (omega arith)
from_2 (a ∷ []) e = absurd (omega arith)
from_2 (a ∷ b ∷ []) e = omega arith
from_2 (a ∷ b ∷ c ∷ xs) e = absurd (omega arith)

pub from_4 : (xs : List ℕ) → length xs ≡ 4 → from_le_bytes w32 xs ≡ from_bytes xs
unfolding from_bytes
from_4 [] e = absurd (omega arith)
from_4 (a ∷ []) e = absurd (omega arith)
from_4 (a ∷ b ∷ []) e = absurd (omega arith)
from_4 (a ∷ b ∷ c ∷ []) e = absurd (omega arith)
from_4 (a ∷ b ∷ c ∷ d ∷ []) e = omega arith
from_4 (a ∷ b ∷ c ∷ d ∷ x ∷ xs) e = absurd (omega arith)

pub from_8 : (xs : List ℕ) → length xs ≡ 8 → from_le_bytes w64 xs ≡ from_bytes xs
unfolding from_bytes
from_8 [] e = absurd (omega arith)
from_8 (a ∷ []) e = absurd (omega arith)
from_8 (a ∷ b ∷ []) e = absurd (omega arith)
from_8 (a ∷ b ∷ c ∷ []) e = absurd (omega arith)
from_8 (a ∷ b ∷ c ∷ d ∷ []) e = absurd (omega arith)
from_8 (a ∷ b ∷ c ∷ d ∷ p ∷ []) e = absurd (omega arith)
from_8 (a ∷ b ∷ c ∷ d ∷ p ∷ q ∷ []) e = absurd (omega arith)
from_8 (a ∷ b ∷ c ∷ d ∷ p ∷ q ∷ r ∷ []) e = absurd (omega arith)
from_8 (a ∷ b ∷ c ∷ d ∷ p ∷ q ∷ r ∷ s ∷ []) e = omega arith
from_8 (a ∷ b ∷ c ∷ d ∷ p ∷ q ∷ r ∷ s ∷ x ∷ xs) e = absurd (omega arith)

pub low_2 : (w : ℕ) → to_le_bytes w16 (w % 2 ^ 16) ≡ low_bytes 2 w
unfolding low_bytes
low_2 w =
    let a : w % 2 ^ 16 % 256 ≡ w % 256 = omega arith in
    let b : w % 2 ^ 16 / 256 % 256 ≡ w / 256 % 256 = omega arith in
    λ i. a i ∷ b i ∷ []

pub low_4 : (w : ℕ) → to_le_bytes w32 (w % 2 ^ 32) ≡ low_bytes 4 w
unfolding low_bytes
low_4 w =
    let a : w % 2 ^ 32 % 256 ≡ w % 256 = omega arith in
    let b : w % 2 ^ 32 / 256 % 256 ≡ w / 256 % 256 = omega arith in
    let c : w % 2 ^ 32 / 256 ^ 2 % 256 ≡ w / 256 / 256 % 256 = omega arith in
    let d : w % 2 ^ 32 / 256 ^ 3 % 256 ≡ w / 256 / 256 / 256 % 256 = omega arith in
    λ i. a i ∷ b i ∷ c i ∷ d i ∷ []

pub low_8 : (w : ℕ) → to_le_bytes w64 w ≡ low_bytes 8 w
unfolding low_bytes
low_8 w =
    let c : w / 256 ^ 2 % 256 ≡ w / 256 / 256 % 256 = omega arith in
    let d : w / 256 ^ 3 % 256 ≡ w / 256 / 256 / 256 % 256 = omega arith in
    let p : w / 256 ^ 4 % 256 ≡ w / 256 / 256 / 256 / 256 % 256 = omega arith in
    let q : w / 256 ^ 5 % 256 ≡ w / 256 / 256 / 256 / 256 / 256 % 256 = omega arith in
    let r : w / 256 ^ 6 % 256 ≡ w / 256 / 256 / 256 / 256 / 256 / 256 % 256 = omega arith in
    let s : w / 256 ^ 7 % 256 ≡ w / 256 / 256 / 256 / 256 / 256 / 256 / 256 % 256 = omega arith in
    λ i. w % 256 ∷ w / 256 % 256 ∷ c i ∷ d i ∷ p i ∷ q i ∷ r i ∷ s i ∷ []

-- the one size that is neither 1 nor 2 nor 4
pub last_size : (size : ℕ) → IsFieldSize size → (size ≡ 1 → ⊥) → (size ≡ 2 → ⊥) → (size ≡ 4 → ⊥) → size ≡ 8
last_size size h a b c = ⊎_elim (λ e. absurd (a e)) (λ h. ⊎_elim (λ e. absurd (b e)) (λ h. ⊎_elim (λ e. absurd (c e)) (λ e. e) h) h) h

-- what was copied out of the bytes is the field
pub copied_field : (bytes : List ℕ) (at k size : ℕ) (xs : List ℕ) (r : ℕ) → size ≡ k → xs ≡ slice_range bytes at (at + k) → r ≡ from_bytes xs → r ≡ field_at bytes at size
copied_field bytes at k size xs r e f g = g ∙ ap from_bytes f ∙ ap (λ n. field_at bytes at n) (sym e)

-- a field of one byte
pub one_byte : (bytes : List ℕ) (at size : ℕ) → size ≡ 1 → at + size ≤ length bytes → get_or bytes at 0 ≡ field_at bytes at size
unfolding from_bytes
one_byte bytes at size e h =
    let inside : at < length bytes = omega arith in
    let length_one : at + 1 - at ≡ 1 = omega arith in
    let one : slice_range bytes at (at + 1) ≡ get_or bytes at 0 ∷ [] = (λ i. take (length_one i) (drop-cons bytes at 0 inside i)) in
    let value : get_or bytes at 0 ≡ get_or bytes at 0 + 256 * 0 = omega arith in
    value ∙ sym (ap from_bytes one) ∙ ap (λ n. field_at bytes at n) (sym e)

-- bytes that were copied into their place are the field
pub copied_into : (bytes : List ℕ) (at k size w : ℕ) (ys : List ℕ) → size ≡ k → ys ≡ low_bytes k w → put_mid at (at + k - at) bytes ys ≡ with_field bytes at size w
copied_into bytes at k size w ys e f =
    let whole : at + k - at ≡ k = omega arith in
    (λ i. put_mid at (whole i) bytes (f i))
    ∙ ap (λ zs. take at bytes ++ (low_bytes k w ++ zs)) (drop-drop k at bytes)
    ∙ ap (λ n. with_field bytes at n w) (sym e)

-- a field of one byte
pub one_written : (bytes : List ℕ) (at size w : ℕ) → size ≡ 1 → at + size ≤ length bytes → set bytes at (bit_and w 255) ≡ with_field bytes at size w
unfolding low_bytes
one_written bytes at size w e h =
    let inside : at < length bytes = omega arith in
    let next : suc at ≡ at + 1 = omega arith in
    set_split bytes at (bit_and w 255) inside
    ∙ (λ i. take at bytes ++ (and_mask w 8 i ∷ drop (next i) bytes))
    ∙ ap (λ n. with_field bytes at n w) (sym e)
