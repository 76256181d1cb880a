-- String literals (C99 6.4.5): neighbouring ones are joined, a zero stands at the end, and the array of
-- characters is a static object without a name.
use Rattle.std.specs.Prelude.{ℕ, zero, ◌+◌, if◌then◌else◌, List, [], ◌∷◌, ◌++◌, length, Ok}
use Rattle.ob_words.specs.declared.types.IntType.TheVariants.{Char}
use Rattle.ob_tree.specs.declared.faults.TypeKind.TheVariants as kind
use Rattle.ob_tree.specs.Trees.{Mark}
use Rattle.ob_tree.specs.Types.{PlainType}
use Rattle.ob_tree.specs.Types.{PlainType as type}
use Rattle.ob_tree.specs.Sizes.{is_complete}
use Rattle.ob_typed.specs.TypedTree.{TypedObject}
use Rattle.ob_typed.specs.TypedTree.{TypedLean as lean}
use Rattle.ob_typed.specs.Faults.{Walk, fault}
use Rattle.ob_typed.specs.Scopes.{Known}
use Rattle.ob_typed.specs.Conversions.{Checked}
use Rattle.ob_typed.specs.Conversions.{Checked as checked}

abbrev pub joined_bytes : List (List ℕ) → List ℕ
joined_bytes [] = []
joined_bytes (s ∷ ss) = s ++ joined_bytes ss

-- the bytes of an object without the zero bytes at its end
abbrev pub behind : ℕ → List ℕ → List ℕ
behind zero [] = []
behind b bs = b ∷ bs

abbrev pub trimmed : List ℕ → List ℕ
trimmed [] = []
trimmed (b ∷ bs) = behind b (trimmed bs)

abbrev pub string_type : List ℕ → PlainType
string_type bytes = type.Array (type.Int Char) (length bytes + 1)

abbrev pub string_object : (line : ℕ) → List ℕ → TypedObject
string_object line bytes = record {
  name = record { name = []; line = line };
  ty = string_type bytes;
  image = record { bytes = trimmed bytes; pointers = [] };
}

abbrev pub with_static : Known → TypedObject → Known
with_static k o = record { structs = k.structs; tags = k.tags; statics = k.statics ++ o ∷ []; calls = k.calls }

abbrev pub string : Mark → List ℕ → Known → Walk Known Checked
string m bytes k =
    if is_complete k.structs (string_type bytes) then Ok (checked.Place m.line (string_type bytes) (lean.Static (length k.statics)), with_static k (string_object m.line bytes))
    else fault kind.Constant m.first
