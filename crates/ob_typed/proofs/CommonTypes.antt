-- What the integer promotions (C99 6.3.1.1) and the usual arithmetic conversions (6.3.1.8) give is promoted.
use Rattle.std.proofs.Common.{Bool, true, false, refl}
use Rattle.std.specs.Prelude.{if◌then◌else◌, nat_le}
use Rattle.ob_words.specs.declared.types.IntType.{IntType}
use Rattle.ob_words.specs.declared.types.IntType.TheVariants.{Char, SChar, UChar, Short, UShort, Int, UInt, Long, ULong, LLong, ULLong}
use Rattle.ob_words.specs.Types.{common, greater, has_all, mixed, promote, rank, signed, unsigned_of, usual}
use Rattle.ob_typed.specs.WellTyped.{IsPromoted}

pub promoted_twice : (k : IntType) → IsPromoted (promote k)
promoted_twice Char = refl
promoted_twice SChar = refl
promoted_twice UChar = refl
promoted_twice Short = refl
promoted_twice UShort = refl
promoted_twice Int = refl
promoted_twice UInt = refl
promoted_twice Long = refl
promoted_twice ULong = refl
promoted_twice LLong = refl
promoted_twice ULLong = refl

chosen : (b : Bool) (j k : IntType) → IsPromoted j → IsPromoted k → IsPromoted (if b then j else k)
chosen true j k h i = h
chosen false j k h i = i

-- the unsigned type of a promoted type is promoted
unsigned_promoted : (k : IntType) → IsPromoted k → IsPromoted (unsigned_of k)
unsigned_promoted Char h = absurd (cc)
unsigned_promoted SChar h = absurd (cc)
unsigned_promoted UChar h = absurd (cc)
unsigned_promoted Short h = absurd (cc)
unsigned_promoted UShort h = absurd (cc)
unsigned_promoted Int h = refl
unsigned_promoted UInt h = refl
unsigned_promoted Long h = refl
unsigned_promoted ULong h = refl
unsigned_promoted LLong h = refl
unsigned_promoted ULLong h = refl

greater_promoted : (a b : IntType) → IsPromoted a → IsPromoted b → IsPromoted (greater a b)
greater_promoted a b h i = chosen (nat_le (rank b) (rank a)) a b h i

mixed_promoted : (u s : IntType) → IsPromoted u → IsPromoted s → IsPromoted (mixed u s)
mixed_promoted u s h i =
    chosen (nat_le (rank s) (rank u)) u (if has_all s u then s else unsigned_of s) h
    (chosen (has_all s u) s (unsigned_of s) i (unsigned_promoted s i))

usual_promoted : (p q : Bool) (a b : IntType) → IsPromoted a → IsPromoted b → IsPromoted (usual p q a b)
usual_promoted true true a b h i = greater_promoted a b h i
usual_promoted true false a b h i = mixed_promoted b a i h
usual_promoted false true a b h i = mixed_promoted a b h i
usual_promoted false false a b h i = greater_promoted a b h i

pub common_promoted : (a b : IntType) → IsPromoted (common a b)
common_promoted a b =
    usual_promoted (signed (promote a)) (signed (promote b)) (promote a) (promote b) (promoted_twice a) (promoted_twice b)
