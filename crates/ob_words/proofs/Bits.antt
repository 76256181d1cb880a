-- The bits of what `&`, `|` and `^` give.
use Rattle.std.proofs.Common.{◌≡◌, ℕ, ◌+◌, ◌%◌, ◌^◌, ◌<◌, ap, ◌∙◌, bit_and, bit_or, lt_of_le_of_lt}
use Rattle.std.specs.Prelude.{ℤ, pos, bit_xor, min, max}
use Rattle.std.specs.Int.{bit_at}
use Rattle.std.proofs.lemmas.Nat.{and_le_l, or_lt, xor_lt}
use Rattle.std.proofs.lemmas.Nat.Bits.{bit_at_and, bit_at_or, bit_at_xor}
use Rattle.ob_words.specs.declared.types.IntType.{IntType}
use Rattle.ob_words.specs.declared.types.BinOp.TheVariants.{And, Or, Xor}
use Rattle.ob_words.specs.Types.{width}
use Rattle.ob_words.specs.Conversion.{convert}
use Rattle.ob_words.specs.Operators.{bits_of, exact}
use Rattle.ob_words.proofs.Congruence.{residue_is, residue_below}
use Rattle.ob_words.proofs.Conversions.{some, convert_congruent}

-- a conversion has the bits that were converted
pub bits_of-convert : (t : IntType) (x : ℕ) → x < 2 ^ width t → bits_of t (convert t (pos x)) ≡ x
bits_of-convert t x h = residue_is (2 ^ width t) (convert t (pos x)) x h (convert_congruent t (pos x))

bits_below : (t : IntType) (a : ℤ) → bits_of t a < 2 ^ width t
bits_below t a = residue_below (2 ^ width t) a (some t)

pub and_bits : (t : IntType) (a b : ℤ) (i : ℕ) → bit_at (bits_of t (convert t (exact And t a b))) i ≡ min (bit_at (bits_of t a) i) (bit_at (bits_of t b) i)
and_bits t a b i =
    let x = bits_of t a in
    let y = bits_of t b in
    ap (λ n. bit_at n i) (bits_of-convert t (bit_and x y) (lt_of_le_of_lt (and_le_l x y) (bits_below t a))) ∙ bit_at_and x y i

pub or_bits : (t : IntType) (a b : ℤ) (i : ℕ) → bit_at (bits_of t (convert t (exact Or t a b))) i ≡ max (bit_at (bits_of t a) i) (bit_at (bits_of t b) i)
or_bits t a b i =
    let x = bits_of t a in
    let y = bits_of t b in
    ap (λ n. bit_at n i) (bits_of-convert t (bit_or x y) (or_lt (width t) x y (bits_below t a) (bits_below t b))) ∙ bit_at_or x y i

pub xor_bits : (t : IntType) (a b : ℤ) (i : ℕ) → bit_at (bits_of t (convert t (exact Xor t a b))) i ≡ (bit_at (bits_of t a) i + bit_at (bits_of t b) i) % 2
xor_bits t a b i =
    let x = bits_of t a in
    let y = bits_of t b in
    ap (λ n. bit_at n i) (bits_of-convert t (bit_xor x y) (xor_lt (width t) x y (bits_below t a) (bits_below t b))) ∙ bit_at_xor x y i
