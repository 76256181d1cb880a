-- The integer types (C99 6.2.5), their numbers, the integer promotions (6.3.1.1) and the usual
-- arithmetic conversions (6.3.1.8). Signed numbers are in two's complement (6.2.6.2).
use Rattle.std.specs.Prelude.{ℕ, ◌-◌, ◌^◌, Bool, true, false, ◌&&◌, ℤ, pos, neg_ℤ, ◌+ℤ◌, ◌≤ℤ◌, ◌<ℤ◌, int_le, nat_le, if◌then◌else◌}
use Rattle.ob_words.specs.declared.types.IntType.{IntType}
use Rattle.ob_words.specs.declared.types.IntType.TheVariants.{Char, SChar, UChar, Short, UShort, Int, UInt, Long, ULong, LLong, ULLong}

-- how many bits a number of the type has
abbrev pub width : IntType → ℕ
width Char = 8
width SChar = 8
width UChar = 8
width Short = 16
width UShort = 16
width Int = 32
width UInt = 32
width Long = 64
width ULong = 64
width LLong = 64
width ULLong = 64

-- the type has negative numbers; `char` is signed here
abbrev pub signed : IntType → Bool
signed Char = true
signed SChar = true
signed UChar = false
signed Short = true
signed UShort = false
signed Int = true
signed UInt = false
signed Long = true
signed ULong = false
signed LLong = true
signed ULLong = false

-- the integer conversion rank (6.3.1.1): only the order of ranks matters
abbrev pub rank : IntType → ℕ
rank Char = 1
rank SChar = 1
rank UChar = 1
rank Short = 2
rank UShort = 2
rank Int = 3
rank UInt = 3
rank Long = 4
rank ULong = 4
rank LLong = 5
rank ULLong = 5

-- the unsigned type that corresponds to a type (6.2.5), and so has its rank and its width
abbrev pub unsigned_of : IntType → IntType
unsigned_of Char = UChar
unsigned_of SChar = UChar
unsigned_of UChar = UChar
unsigned_of Short = UShort
unsigned_of UShort = UShort
unsigned_of Int = UInt
unsigned_of UInt = UInt
unsigned_of Long = ULong
unsigned_of ULong = ULong
unsigned_of LLong = ULLong
unsigned_of ULLong = ULLong

-- the least number of the type: 0, or minus half as many as there are numbers
abbrev pub least : IntType → ℤ
least t = if signed t then neg_ℤ (pos (2 ^ (width t - 1))) else pos 0

-- the least number above all of the type: there are 2 ^ width numbers
abbrev pub past : IntType → ℤ
past t = least t +ℤ pos (2 ^ width t)

-- z is a number of the type
pub record IsNumber (t : IntType) (z : ℤ) : Type 0 where
  pub from_least : least t ≤ℤ z
  pub below_past : z <ℤ past t

-- a has all the numbers of b
abbrev pub has_all : IntType → IntType → Bool
has_all a b = int_le (least a) (least b) && int_le (past b) (past a)

-- The integer promotions (6.3.1.1): a type whose rank isn't above that of `int` becomes `int` where
-- an `int` has all its numbers, else `unsigned int`; another type stays.
abbrev pub promote : IntType → IntType
promote t = if nat_le (rank t) (rank Int) then (if has_all Int t then Int else UInt) else t

-- of two types of one sign, the one of the greater rank
abbrev pub greater : IntType → IntType → IntType
greater a b = if nat_le (rank b) (rank a) then a else b

-- Of an unsigned and a signed type: the unsigned one where its rank isn't smaller; else the signed
-- one where it has all numbers of the other; else the unsigned type that corresponds to it.
abbrev pub mixed : IntType → IntType → IntType
mixed u s = if nat_le (rank s) (rank u) then u else (if has_all s u then s else unsigned_of s)

-- the common type of two promoted types, by their signs
abbrev pub usual : Bool → Bool → IntType → IntType → IntType
usual true true a b = greater a b
usual true false a b = mixed b a
usual false true a b = mixed a b
usual false false a b = greater a b

-- the usual arithmetic conversions (6.3.1.8): the operands are promoted first
abbrev pub common : IntType → IntType → IntType
common a b = let x = promote a in let y = promote b in usual (signed x) (signed y) x y
