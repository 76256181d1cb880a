-- Conversion gives the one congruent number of the type, and what follows for sums, products and words.
use Rattle.std.proofs.Common.{◌≡◌, ℕ, ◌+◌, ◌-◌, ◌*◌, ◌^◌, ◌<◌, ◌≤◌, Bool, true, false, refl, sym, ap, subst, ◌∙◌, arith, lit<}
use Rattle.std.specs.Prelude.{ℤ, pos, ◌+ℤ◌, ◌-ℤ◌, ◌*ℤ◌, neg_ℤ, unsigned_abs, nat_lt, if◌then◌else◌}
use Rattle.std.proofs.lemmas.Int.{ints}
use Rattle.std.proofs.lemmas.Nat.{pow_pos, pow-add}
use borrow.Author.Differences.{same_out, sum_is_lem, neg_is}
use Rattle.ob_words.specs.declared.types.IntType.{IntType}
use Rattle.ob_words.specs.declared.types.IntType.TheVariants.{Char, SChar, UChar, Short, UShort, Int, UInt, Long, ULong, LLong, ULLong}
use Rattle.ob_words.specs.Words.{word, number}
use borrow.Author.Tests.{ltb-true, ltb-false}
use Rattle.ob_words.specs.Types.{width, signed, least, IsNumber}
use Rattle.ob_words.specs.Conversion.{IsCongruent, residue, convert, twos_complement, IsConversion}
use Rattle.ob_words.proofs.Congruence.{congruent, factors, congruent_refl, congruent_sym, congruent_trans, congruent_sum, congruent_difference, congruent_product, congruent_coarser, residue_is, residue_below, residue_congruent, residue_same}

-- some number has the type
pub some : (t : IntType) → 0 < 2 ^ width t
some t = pow_pos (width t)

pub convert_number : (t : IntType) (n : ℤ) → IsNumber t (convert t n)
unfolding convert
convert_number t n =
    let l = least t in
    let m = 2 ^ width t in
    let below : residue m (n -ℤ l) < m = residue_below m (n -ℤ l) (some t) in
    record { from_least = omega (arith, ints); below_past = omega (arith, ints) }

pub convert_congruent : (t : IntType) (n : ℤ) → IsCongruent (2 ^ width t) (convert t n) n
unfolding convert
convert_congruent t n =
    let l = least t in
    let m = 2 ^ width t in
    let r = residue m (n -ℤ l) in
    let f = factors m (pos r) (n -ℤ l) (residue_congruent m (n -ℤ l) (some t)) in
    congruent m (l +ℤ pos r) n f.0 f.1 (omega (arith, f.2, sum_is_lem, neg_is))

-- a number of the type that is congruent is the conversion
pub convert_is : (t : IntType) (n z : ℤ) → IsNumber t z → IsCongruent (2 ^ width t) n z → convert t n ≡ z
unfolding convert
convert_is t n z h c =
    let l = least t in
    let m = 2 ^ width t in
    let r = unsigned_abs (z -ℤ l) in
    let from_least = h.from_least in
    let below_past = h.below_past in
    let above : z ≡ l +ℤ pos r = omega (arith, ints) in
    let below : r < m = omega (arith, ints) in
    let f = factors m n z c in
    let apart : IsCongruent m (n -ℤ l) (pos r) = congruent m (n -ℤ l) (pos r) f.0 f.1 (omega (arith, f.2, sum_is_lem, neg_is, same_out z (l +ℤ pos r) above)) in
    ap (λ x. l +ℤ pos x) (residue_is m (n -ℤ l) r below apart) ∙ sym above

pub conversion : (t : IntType) (n : ℤ) → IsConversion t n (convert t n)
conversion t n = record {
  is_number = convert_number t n;
  is_congruent = convert_congruent t n;
  only = λ other h c. sym (convert_is t n other h (congruent_sym (2 ^ width t) other n c));
}

pub convert_same : (t : IntType) (a b : ℤ) → IsCongruent (2 ^ width t) a b → convert t a ≡ convert t b
convert_same t a b c =
    convert_is t a (convert t b) (convert_number t b) (congruent_trans (2 ^ width t) a b (convert t b) c (congruent_sym (2 ^ width t) (convert t b) b (convert_congruent t b)))

-- a number of the type stays
pub convert_own : (t : IntType) (n : ℤ) → IsNumber t n → convert t n ≡ n
convert_own t n h = convert_is t n n h (congruent_refl (2 ^ width t) n)

pub convert_twice : (t : IntType) (n : ℤ) → convert t (convert t n) ≡ convert t n
convert_twice t n = convert_own t (convert t n) (convert_number t n)

-- to convert the parts first changes nothing
pub convert_sum : (t : IntType) (a b : ℤ) → convert t (convert t a +ℤ convert t b) ≡ convert t (a +ℤ b)
convert_sum t a b = convert_same t (convert t a +ℤ convert t b) (a +ℤ b) (congruent_sum (2 ^ width t) (convert t a) a (convert t b) b (convert_congruent t a) (convert_congruent t b))

pub convert_difference : (t : IntType) (a b : ℤ) → convert t (convert t a -ℤ convert t b) ≡ convert t (a -ℤ b)
convert_difference t a b = convert_same t (convert t a -ℤ convert t b) (a -ℤ b) (congruent_difference (2 ^ width t) (convert t a) a (convert t b) b (convert_congruent t a) (convert_congruent t b))

pub convert_product : (t : IntType) (a b : ℤ) → convert t (convert t a *ℤ convert t b) ≡ convert t (a *ℤ b)
convert_product t a b = convert_same t (convert t a *ℤ convert t b) (a *ℤ b) (congruent_product (2 ^ width t) (convert t a) a (convert t b) b (convert_congruent t a) (convert_congruent t b))

-- a conversion to a type that isn't narrower changes nothing for a conversion that follows
pub convert_wider : (t u : IntType) (n : ℤ) → width t ≤ width u → convert t (convert u n) ≡ convert t n
convert_wider t u n h =
    let more = width u - width t in
    let sum : width u ≡ more + width t = omega arith in
    let modulus : 2 ^ width u ≡ 2 ^ more * 2 ^ width t = ap (λ k. 2 ^ k) sum ∙ pow-add 2 more (width t) in
    convert_same t (convert u n) n (congruent_coarser (2 ^ width t) (2 ^ width u) (2 ^ more) (convert u n) n modulus (convert_congruent u n))

-- ---- words

-- the word's modulus is a multiple of each type's
words_of : (t : IntType) → (q : ℕ) × (2 ^ 64 ≡ q * 2 ^ width t)
words_of Char = (2 ^ 56, refl)
words_of SChar = (2 ^ 56, refl)
words_of UChar = (2 ^ 56, refl)
words_of Short = (2 ^ 48, refl)
words_of UShort = (2 ^ 48, refl)
words_of Int = (2 ^ 32, refl)
words_of UInt = (2 ^ 32, refl)
words_of Long = (1, refl)
words_of ULong = (1, refl)
words_of LLong = (1, refl)
words_of ULLong = (1, refl)

-- what is congruent as a word is so in each type
pub congruent_in : (t : IntType) (a b : ℤ) → IsCongruent (2 ^ 64) a b → IsCongruent (2 ^ width t) a b
congruent_in t a b c = let q = words_of t in congruent_coarser (2 ^ width t) (2 ^ 64) q.0 a b q.1 c

pub word_below : (n : ℤ) → word n < 2 ^ 64
word_below n = residue_below (2 ^ 64) n (lit< tt)

pub word_congruent : (n : ℤ) → IsCongruent (2 ^ 64) (pos (word n)) n
word_congruent n = residue_congruent (2 ^ 64) n (lit< tt)

-- a word keeps what the conversion to any type needs
pub number-word : (t : IntType) (n : ℤ) → number t (word n) ≡ convert t n
number-word t n = convert_same t (pos (word n)) n (congruent_in t (pos (word n)) n (word_congruent n))

-- the number of a type comes back from its word
pub number-word_own : (t : IntType) (n : ℤ) → IsNumber t n → number t (word n) ≡ n
number-word_own t n h = number-word t n ∙ convert_own t n h

-- a word comes back from its number, in a type of 64 bits
pub word-number : (t : IntType) (w : ℕ) → width t ≡ 64 → w < 2 ^ 64 → word (number t w) ≡ w
word-number t w e h =
    residue_is (2 ^ 64) (number t w) w h (subst (λ k. IsCongruent (2 ^ k) (number t w) (pos w)) e (convert_congruent t (pos w)))

-- a word is its own natural number
pub word-pos : (w : ℕ) → w < 2 ^ 64 → word (pos w) ≡ w
word-pos w h = residue_is (2 ^ 64) (pos w) w h (congruent_refl (2 ^ 64) (pos w))

pub word_same : (a b : ℤ) → IsCongruent (2 ^ 64) a b → word a ≡ word b
word_same a b c = residue_same (2 ^ 64) a b (lit< tt) c

-- ---- conversion by the bits of a number

least_unsigned : (t : IntType) → signed t ≡ false → least t ≡ pos 0
least_unsigned t e = ap (λ s. if s then neg_ℤ (pos (2 ^ (width t - 1))) else pos 0) e

least_signed : (t : IntType) → signed t ≡ true → least t ≡ neg_ℤ (pos (2 ^ (width t - 1)))
least_signed t e = ap (λ s. if s then neg_ℤ (pos (2 ^ (width t - 1))) else pos 0) e

halves : (t : IntType) → 2 ^ width t ≡ 2 * 2 ^ (width t - 1)
halves Char = refl
halves SChar = refl
halves UChar = refl
halves Short = refl
halves UShort = refl
halves Int = refl
halves UInt = refl
halves Long = refl
halves ULong = refl
halves LLong = refl
halves ULLong = refl

pub convert_unsigned : (t : IntType) (n : ℤ) → signed t ≡ false → convert t n ≡ pos (residue (2 ^ width t) n)
convert_unsigned t n e =
    let m = 2 ^ width t in
    let r = residue m n in
    let zero = least_unsigned t e in
    let below = residue_below m n (some t) in
    let number : IsNumber t (pos r) = record { from_least = omega (arith, ints, zero); below_past = omega (arith, ints, zero) } in
    convert_is t n (pos r) number (congruent_sym m (pos r) n (residue_congruent m n (some t)))

-- by whether the highest bit is set
by_highest : (t : IntType) (n : ℤ) (r h m : ℕ) → h ≡ 2 ^ (width t - 1) → m ≡ 2 ^ width t → r < m → least t ≡ neg_ℤ (pos h) → m ≡ 2 * h → IsCongruent m n (pos r) → (b : Bool) → nat_lt r h ≡ b → convert t n ≡ (if b then pos r else pos r -ℤ pos m)
by_highest t n r h m half modulus below bottom whole same true low =
    let small : r < h = omega (arith, ltb-true, low) in
    let number : IsNumber t (pos r) = record { from_least = omega (arith, ints, bottom); below_past = omega (arith, ints, bottom, modulus) } in
    convert_is t n (pos r) number (subst (λ k. IsCongruent k n (pos r)) modulus same)
by_highest t n r h m half modulus below bottom whole same false high =
    let large : h ≤ r = omega (arith, ltb-false, high) in
    let z = pos r -ℤ pos m in
    let number : IsNumber t z = record { from_least = omega (arith, ints, bottom); below_past = omega (arith, ints, bottom, modulus) } in
    let also : IsCongruent m n z = congruent_trans m n (pos r) z same (congruent m (pos r) z 0 1 (omega (arith, ints))) in
    convert_is t n z number (subst (λ k. IsCongruent k n z) modulus also)

pub convert_signed : (t : IntType) (n : ℤ) → signed t ≡ true → convert t n ≡ twos_complement (width t) (residue (2 ^ width t) n)
convert_signed t n e =
    let m = 2 ^ width t in
    let r = residue m n in
    by_highest t n r (2 ^ (width t - 1)) m refl refl (residue_below m n (some t)) (least_signed t e) (halves t)
    (congruent_sym m (pos r) n (residue_congruent m n (some t))) (nat_lt r (2 ^ (width t - 1))) refl
