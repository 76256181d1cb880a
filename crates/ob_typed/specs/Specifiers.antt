-- Type specifiers and declarators (C99 6.7.2, 6.7.5, 6.7.6): the rule of each.
use Rattle.std.specs.Prelude.{ℕ, zero, suc, ℤ, pos, Bool, false, nat_eq, ◌||◌, if◌then◌else◌, Option, Some, None, Ok, Err, List, [], ◌∷◌, ◌++◌, length, slice_get, unsigned_abs}
use Rattle.std.specs.Prelude.{int_lt}
use Rattle.std.specs.Str.{bytes_eq}
use Rattle.ob_words.specs.declared.types.IntType.{IntType}
use Rattle.ob_words.specs.declared.types.IntType.TheVariants as int
use Rattle.ob_words.specs.Types.{unsigned_of}
use Rattle.ob_tree.specs.declared.faults.TypeKind.TheVariants as kind
use Rattle.ob_tree.specs.declared.tokens.Keyword.{Keyword}
use Rattle.ob_tree.specs.declared.tokens.Keyword.TheVariants as word
use Rattle.ob_tree.specs.Trees.{Mark}
use Rattle.ob_tree.specs.Types.{PlainType, PlainMember, PlainStructs, is_complete_row, unknown_struct, with_members}
use Rattle.ob_tree.specs.Types.{PlainType as type}
use Rattle.ob_tree.specs.Sizes.{is_complete}
use Rattle.ob_typed.specs.Completeness.{is_object_type, is_sized}
use Rattle.ob_typed.specs.TypedTree.{TypedExpr}
use Rattle.ob_typed.specs.Faults.{place_behind, Answer, fault}
use Rattle.ob_typed.specs.Scopes.{Known, TagDeclared, find_tag, tag_at}
use Rattle.ob_typed.specs.TypeTests.{is_unusable}
use Rattle.ob_typed.specs.ConstantValues.{constant}
use Rattle.ob_typed.specs.Conversions.{value_type}

-- ---- integer types (6.7.2), by the words that name one

abbrev pub plain_words : List Keyword → IntType
plain_words (word.Char ∷ ws) = int.Char
plain_words (word.Short ∷ ws) = int.Short
plain_words (word.Long ∷ (word.Long ∷ ws)) = int.LLong
plain_words (word.Long ∷ ws) = int.Long
plain_words _ = int.Int

abbrev pub signed_words : List Keyword → IntType
signed_words (word.Char ∷ ws) = int.SChar
signed_words ws = plain_words ws

abbrev pub int_words : List Keyword → IntType
int_words (word.Signed ∷ ws) = signed_words ws
int_words (word.Unsigned ∷ ws) = unsigned_of (plain_words ws)
int_words ws = plain_words ws

-- ---- structures (6.7.2.1, 6.7.2.3)

-- a structure without its members yet, under a tag in the block of a depth, or under none
abbrev pub new_struct : Known → Known
new_struct k = record { structs = k.structs ++ unknown_struct ∷ []; tags = k.tags; statics = k.statics; calls = k.calls }

abbrev pub new_tag : (name : List ℕ) → (depth : ℕ) → Known → Known
new_tag name depth k = record {
  structs = k.structs ++ unknown_struct ∷ [];
  tags = record { name = name; depth = depth; number = length k.structs } ∷ k.tags;
  statics = k.statics;
  calls = k.calls;
}

-- the structure of a tag that is declared, else a new one
abbrev pub tag_number : Option TagDeclared → (name : List ℕ) → (depth : ℕ) → Known → PlainType × Known
tag_number None name depth k = (type.Struct (length k.structs), new_tag name depth k)
tag_number (Some d) name depth k = (type.Struct d.number, k)

-- A tag that is mentioned means the one in force, and is declared by its mention where there is none. With
-- members, or alone in a declaration, it means the one of its own block.
abbrev pub mentioned : (name : List ℕ) → (depth : ℕ) → Known → PlainType × Known
mentioned name depth k = tag_number (find_tag name k.tags) name depth k

abbrev pub opened : Option (List ℕ) → (depth : ℕ) → Known → PlainType × Known
opened None depth k = (type.Struct (length k.structs), new_struct k)
opened (Some name) depth k = tag_number (tag_at name depth k.tags) name depth k

-- the place that faults of a structure stand at: its tag, which follows the word `struct`, else that word
abbrev pub struct_place : Option (List ℕ) → (first : ℕ) → ℕ
struct_place None first = first
struct_place (Some name) first = place_behind first

abbrev pub is_around : (number : ℕ) → List ℕ → Bool
is_around n [] = false
is_around n (m ∷ ms) = nat_eq m n || is_around n ms

-- The structures with the members of one of them, where it had none and isn't too great. A member list within one
-- of the same structure is the second of the two.
abbrev pub closed : (around : List ℕ) → PlainStructs → PlainType → (at : ℕ) → List PlainMember → Answer PlainStructs
closed around structs (type.Struct n) at ms =
    if is_complete_row (slice_get structs n) || is_around n around then fault kind.Twice at
    else (if is_complete (with_members structs n ms) (type.Struct n) then Ok (with_members structs n ms) else fault kind.Constant at)
closed around structs _ at ms = Ok structs

-- ---- declarators (6.7.5): stars, then the brackets; an array without a length has the length 0

abbrev pub pointers : (stars : ℕ) → PlainType → PlainType
pointers zero t = t
pointers (suc n) t = pointers n (type.Pointer t)

abbrev pub arrays : PlainType → (lengths : List ℕ) → PlainType
arrays t [] = t
arrays t (n ∷ ns) = type.Array (arrays t ns) n

abbrev pub declarator_type : PlainType → (stars : ℕ) → (lengths : List ℕ) → PlainType
declarator_type t stars lengths = arrays (pointers stars t) lengths

-- a parameter of array type is a pointer (6.7.5.3)
abbrev pub parameter_type : PlainType → (stars : ℕ) → (lengths : List ℕ) → PlainType
parameter_type t stars [] = pointers stars t
parameter_type t stars (n ∷ ns) = type.Pointer (arrays (pointers stars t) ns)

-- an array's length is a constant of at least 1 (6.7.5.2)
abbrev pub positive_length : Mark → Option ℤ → Answer ℕ
positive_length m None = fault kind.Constant m.first
positive_length m (Some z) = if int_lt (pos 0) z then Ok (unsigned_abs z) else fault kind.Constant m.first

abbrev pub length_rule : Mark → TypedExpr → Answer ℕ
length_rule m x = if is_unusable (value_type x) then fault kind.Operand m.at else positive_length m (constant x)

-- ---- members: no two of one name, each with a size and not too great

abbrev pub has_member : (name : List ℕ) → List PlainMember → Bool
has_member name [] = false
has_member name (m ∷ ms) = bytes_eq m.name name || has_member name ms

-- a type that an object, a member or a parameter may have, at the name
abbrev pub object_type : PlainStructs → PlainType → (at : ℕ) → Answer PlainType
object_type structs t at =
    if is_object_type structs t then Ok t else (if is_sized structs t then fault kind.Constant at else fault kind.Incomplete at)

abbrev pub with_member : List PlainMember → (name : List ℕ) → Answer PlainType → Answer (List PlainMember)
with_member done name (Ok t) = Ok (done ++ record { name = name; ty = t } ∷ [])
with_member done name (Err f) = Err f

abbrev pub member_rule : PlainStructs → (done : List PlainMember) → PlainType → (name : List ℕ) → (at : ℕ) → Answer (List PlainMember)
member_rule structs done t name at =
    if has_member name done then fault kind.Twice at else with_member done name (object_type structs t at)
