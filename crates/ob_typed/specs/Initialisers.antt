-- Initialisers (C99 6.7.8). Each item is judged when its expression was, before the next item; a list's own
-- faults come after all its items. Items past the end are walked alone.
use Rattle.std.specs.Prelude.{ℕ, zero, suc, ◌+◌, Bool, true, false, nat_eq, nat_le, if◌then◌else◌, Option, Some, None, Ok, List, [], ◌∷◌, ◌++◌, length, map}
use Rattle.ob_tree.specs.declared.faults.TypeKind.TheVariants as kind
use Rattle.ob_tree.specs.Trees.{Mark, ExprTree, InitTree, InitTrees}
use Rattle.ob_tree.specs.Trees.{ExprTree as tree, InitTree as source, InitTrees as sources}
use Rattle.ob_tree.specs.Types.{PlainType, PlainStructs}
use Rattle.ob_tree.specs.Types.{PlainType as type}
use Rattle.ob_tree.specs.Parts.{Part, part}
use Rattle.ob_typed.specs.TypedTree.{TypedExpr, TypedInit, TypedInits, TypedObject}
use Rattle.ob_typed.specs.TypedTree.{TypedInit as init, TypedInits as inits, TypedPlace as place}
use Rattle.ob_typed.specs.Faults.{Answer, Walk, fault, next, by}
use Rattle.ob_typed.specs.Scopes.{Known, Env}
use Rattle.ob_typed.specs.TypeTests.{is_char, is_unusable, is_void}
use Rattle.ob_typed.specs.Conversions.{Checked, as_type, fits, value, value_type}
use Rattle.ob_typed.specs.Conversions.{Checked as checked}
use Rattle.ob_typed.specs.AddressConstants.{is_static_value}
use Rattle.ob_tree.specs.Levels.{mark_of}
use Rattle.ob_typed.specs.Marks.{first_of_init}
use Rattle.ob_typed.specs.Strings.{joined_bytes}
use Rattle.ob_typed.specs.Expressions.{check}

abbrev pub static_types : List TypedObject → List PlainType
static_types os = map (λ o. o.ty) os

-- ---- an expression for a part of a type; where fixed, the object is static and needs a constant

abbrev pub constant_item : PlainStructs → (types : List PlainType) → (fixed : Bool) → Mark → TypedExpr → Answer TypedInit
constant_item structs types false m e = Ok (init.Value e)
constant_item structs types true m e = if is_static_value structs types e then Ok (init.Value e) else fault kind.Constant m.first

abbrev pub scalar_item : PlainStructs → (types : List PlainType) → (fixed : Bool) → PlainType → Mark → Checked → Answer TypedInit
scalar_item structs types fixed t m x =
    if is_unusable (value_type (value x)) then fault kind.Operand m.at
    else (if fits x t then constant_item structs types fixed m (as_type (value x) t) else fault kind.Assign m.first)

-- an array needs a list
abbrev pub array_item : Mark → Checked → Answer TypedInit
array_item m x = if is_void (value_type (value x)) then fault kind.Operand m.at else fault kind.Count m.first

-- an automatic structure may be copied from a place of its type
abbrev pub struct_item : (fixed : Bool) → (number : ℕ) → Mark → Checked → Answer TypedInit
struct_item false n m (checked.Place line (type.Struct k) l) =
    if nat_eq n k then Ok (init.Copy (place.Place line (type.Struct k) l)) else fault kind.Assign m.first
struct_item fixed n m x = if is_unusable (value_type (value x)) then fault kind.Operand m.at else fault kind.Assign m.first

abbrev pub item_rule : PlainStructs → (types : List PlainType) → (fixed : Bool) → PlainType → Mark → Checked → Answer TypedInit
item_rule structs types fixed (type.Int k) m x = scalar_item structs types fixed (type.Int k) m x
item_rule structs types fixed (type.Pointer t) m x = scalar_item structs types fixed (type.Pointer t) m x
item_rule structs types fixed (type.Array t n) m x = array_item m x
item_rule structs types fixed (type.Struct n) m x = struct_item fixed n m x
item_rule structs types fixed type.Void m x = fault kind.Operand m.at

-- a part that there isn't takes any expression
abbrev pub part_rule : PlainStructs → (types : List PlainType) → (fixed : Bool) → Option PlainType → Mark → Checked → Answer TypedInit
part_rule structs types fixed None m x = Ok (init.Value (value x))
part_rule structs types fixed (Some t) m x = item_rule structs types fixed t m x

-- ---- a string literal for an array of characters; its final zero is stored where there is room

abbrev pub string_node : ExprTree → Option (List ℕ)
string_node (tree.Str m strings) = Some (joined_bytes strings)
string_node _ = None

abbrev pub chars_for : PlainType → ExprTree → Option (List ℕ)
chars_for (type.Int k) e = if is_char k then string_node e else None
chars_for _ e = None

abbrev pub string_for : Option PlainType → ExprTree → Option (List ℕ)
string_for (Some (type.Array t n)) e = chars_for t e
string_for _ e = None

abbrev pub fits_length : (count length : ℕ) → Bool
fits_length zero n = true
fits_length (suc count) n = nat_le n (suc count)

abbrev pub string_rule : Option PlainType → Mark → List ℕ → Answer TypedInit
string_rule (Some (type.Array t n)) m bytes = if fits_length n (length bytes) then Ok (init.Chars bytes) else fault kind.Count m.first
string_rule _ m bytes = fault kind.Count m.first

-- ---- lists

-- the type of part i, where there is one
abbrev pub type_of : Option Part → Option PlainType
type_of None = None
type_of (Some p) = Some p.ty

abbrev pub part_type : PlainStructs → Option PlainType → (i : ℕ) → Option PlainType
part_type structs None i = None
part_type structs (Some t) i = type_of (part structs t i)

abbrev pub init_list : List TypedInit → TypedInits
init_list [] = inits.NoItems
init_list (x ∷ xs) = inits.Item x (init_list xs)

abbrev pub past_here : Option Part → (place : ℕ) → Option ℕ → Option ℕ
past_here None place after = Some place
past_here (Some p) place after = after

-- where the first item past the end begins
abbrev pub past_end : PlainStructs → PlainType → (i : ℕ) → InitTrees → Option ℕ
past_end structs t i sources.NoItems = None
past_end structs t i (sources.Item x xs) = past_here (part structs t i) (first_of_init x) (past_end structs t (i + 1) xs)

abbrev pub counted : Option ℕ → List TypedInit → Answer TypedInit
counted None items = Ok (init.Items (init_list items))
counted (Some place) items = fault kind.Count place

-- a list is for an array or a structure; `first` is the place of its brace
abbrev pub list_rule : PlainStructs → Option PlainType → (first : ℕ) → InitTrees → List TypedInit → Answer TypedInit
list_rule structs None first is items = Ok (init.Items (init_list items))
list_rule structs (Some (type.Array t n)) first is items = counted (past_end structs (type.Array t n) 0 is) items
list_rule structs (Some (type.Struct n)) first is items = counted (past_end structs (type.Struct n) 0 is) items
list_rule structs (Some t) first is items = fault kind.Count first

-- ---- the walk

abbrev pub check_value : Env → (fixed : Bool) → Option PlainType → ExprTree → Option (List ℕ) → Known → Walk Known TypedInit
check_value env fixed t e (Some bytes) k = by (string_rule t (mark_of e) bytes) k
check_value env fixed t e None k = next (check env e k) (λ x k1. by (part_rule k1.structs (static_types k1.statics) fixed t (mark_of e) x) k1)

abbrev mutual
  -- an initialiser of a part of this type, or past the end
  pub check_init : Env → (fixed : Bool) → Option PlainType → InitTree → Known → Walk Known TypedInit
  check_init env fixed t (source.Value e) k = check_value env fixed t e (string_for t e) k
  check_init env fixed t (source.Braces first is comma) k =
      next (check_items env fixed t [] is k) (λ items k1. by (list_rule k1.structs t first is items) k1)

  -- the items of a list, after those before them
  pub check_items : Env → (fixed : Bool) → Option PlainType → (done : List TypedInit) → InitTrees → Known → Walk Known (List TypedInit)
  check_items env fixed t done sources.NoItems k = Ok (done, k)
  check_items env fixed t done (sources.Item x xs) k =
      next (check_init env fixed (part_type k.structs t (length done)) x k) (λ item k1. check_items env fixed t (done ++ item ∷ []) xs k1)

-- ---- the length that an initialiser tells (6.7.8)

abbrev pub item_count : TypedInits → ℕ
item_count inits.NoItems = 0
item_count (inits.Item x xs) = 1 + item_count xs

abbrev pub told_length : TypedInit → ℕ
told_length (init.Items is) = item_count is
told_length (init.Chars bytes) = length bytes + 1
told_length _ = 0

abbrev pub with_length : PlainType → (count told : ℕ) → PlainType
with_length t zero told = type.Array t told
with_length t (suc n) told = type.Array t (suc n)

-- the length that the text of an initialiser tells
abbrev pub text_count : InitTrees → ℕ
text_count sources.NoItems = 0
text_count (sources.Item x xs) = 1 + text_count xs

abbrev pub string_count : Option (List ℕ) → ℕ
string_count None = 0
string_count (Some bytes) = length bytes + 1

abbrev pub text_length : InitTree → ℕ
text_length (source.Value e) = string_count (string_node e)
text_length (source.Braces first is comma) = text_count is

-- the type that an object will have after its initialiser, which bounds the addresses in it
abbrev pub foreseen : PlainType → InitTree → PlainType
foreseen (type.Array t n) i = with_length t n (text_length i)
foreseen t i = t

-- the type of an object after its initialiser
abbrev pub completed : PlainType → TypedInit → PlainType
completed (type.Array t n) x = with_length t n (told_length x)
completed t x = t
