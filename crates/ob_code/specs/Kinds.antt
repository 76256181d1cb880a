-- The numbers of kinds in a row of names: those of the integer types in their order, then a pointer, then arrays and structures.
use Rattle.std.specs.Prelude.{ℕ, List, [], ◌∷◌, Option, slice_get}
use Rattle.ob_words.specs.declared.types.IntType.TheVariants.{Char, SChar, UChar, Short, UShort, Int, UInt, Long, ULong, LLong, ULLong}
use Rattle.ob_model.specs.declared.values.LoadKind.{LoadKind}
use Rattle.ob_model.specs.declared.values.LoadKind.TheVariants.{Num, Ptr}

abbrev pub load_kinds : List LoadKind
load_kinds =
    Num Char ∷ Num SChar ∷ Num UChar ∷ Num Short ∷ Num UShort ∷ Num Int ∷ Num UInt ∷ Num Long ∷ Num ULong ∷ Num LLong ∷ Num ULLong ∷ Ptr ∷ []

-- the number of arrays and structures, which no load takes whole
abbrev pub no_load_kind : ℕ
no_load_kind = 12

abbrev pub load_kind_of : ℕ → Option LoadKind
load_kind_of kind = slice_get load_kinds kind
