-- The names of variables: one row for each static object that has a name, then one for each variable of each function.
use Rattle.std.specs.Prelude.{ℕ, ◌+◌, List, [], ◌∷◌, ◌++◌}
use Rattle.ob_tree.specs.Types.{PlainType}
use Rattle.ob_tree.specs.Types.PlainType.{Void, Int, Pointer, Array, Struct}
use Rattle.ob_typed.specs.declared.names.VarName.{VarName}
use Rattle.ob_typed.specs.TypedTree.{TypedFunction, TypedObject}
use Rattle.ob_typed.specs.TypeTests.{int_number}
use Rattle.ob_code.specs.declared.image.NameRow.{NameRow}
use Rattle.ob_code.specs.Kinds.{no_load_kind}
use Rattle.ob_lower.specs.Homes.{Home, plain, bytes, unseen, homes}

-- the integer types in order, then pointers, then arrays and structures
abbrev pub kind_number : PlainType → ℕ
kind_number (Int t) = int_number t
kind_number (Pointer t) = 11
kind_number Void = no_load_kind
kind_number (Array t n) = no_load_kind
kind_number (Struct n) = no_load_kind

abbrev pub home_word : Home → ℕ
home_word (plain w) = w
home_word (bytes row) = 0
home_word (unseen row) = 0

abbrev pub name_row : (holder ordinal word : ℕ) → PlainType → VarName → NameRow
name_row holder ordinal word t name =
    record { holder = holder; ordinal = ordinal; line = name.line; word = word; kind = kind_number t; name = name.name }

-- where there is a name
abbrev pub if_named : List ℕ → NameRow → List NameRow
if_named [] row = []
if_named (c ∷ cs) row = row ∷ []

abbrev pub row_if_named : (holder ordinal word : ℕ) → PlainType → VarName → List NameRow
row_if_named holder ordinal word t name = if_named name.name (name_row holder ordinal word t name)

-- static objects are numbered from 1, and functions too
abbrev pub static_names : ℕ → List TypedObject → List NameRow
static_names object [] = []
static_names object (o ∷ os) = row_if_named 0 object 0 o.ty o.name ++ static_names (object + 1) os

abbrev pub variable_names : (holder ordinal : ℕ) → List VarName → List PlainType → List Home → List NameRow
variable_names holder ordinal [] ts hs = []
variable_names holder ordinal (n ∷ ns) [] hs = []
variable_names holder ordinal (n ∷ ns) (t ∷ ts) [] = []
variable_names holder ordinal (n ∷ ns) (t ∷ ts) (h ∷ hs) =
    row_if_named holder ordinal (home_word h) t n ++ variable_names holder (ordinal + 1) ns ts hs

abbrev pub function_names : ℕ → List TypedFunction → List NameRow
function_names holder [] = []
function_names holder (f ∷ fs) = variable_names holder 0 f.names f.locals (homes f) ++ function_names (holder + 1) fs
