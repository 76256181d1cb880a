-- What shows of a run at its end: the static numbers and pointers that have names, the function of the innermost call in
-- progress, and that call's numbers and pointers. Values are read as accesses read them, and nothing is told.
use Rattle.std.specs.Prelude.{◌≡◌, ℕ, ◌+◌, ◌≤◌, pos, List, [], ◌∷◌, ◌++◌, Option, Some, None, unwrap_or}
use Rattle.ob_model.specs.declared.values.LoadKind.{LoadKind}
use Rattle.ob_model.specs.declared.values.LoadKind.TheVariants.{Num, Ptr}
use Rattle.ob_model.specs.declared.values.Value.{Value}
use Rattle.ob_model.specs.declared.values.Value.TheVariants as value
use Rattle.ob_model.specs.Accesses.{bytes_of_kind}
use Rattle.ob_model.specs.Objects.{live}
use Rattle.ob_model.specs.Shown.{ShownList, ShownVariable, shown_value}
use Rattle.ob_tree.specs.Types.{PlainType}
use Rattle.ob_tree.specs.Types.PlainType.{Void, Int, Pointer, Array, Struct}
use Rattle.ob_typed.specs.declared.names.VarName.{VarName}
use Rattle.ob_typed.specs.TypedTree.{TypedObject}
use Rattle.ob_meaning.specs.Accesses.{load}
use Rattle.ob_meaning.specs.Memory.{object_at, own_cell}
use Rattle.ob_meaning.specs.MemoryLaws.{IsWhole}
use Rattle.ob_meaning.specs.Setup.{Setup, first_local, running}
use Rattle.ob_meaning.specs.Values.{nothing, read_cell}
use Rattle.ob_meaning.specs.World.{Rule, Call, World, go}

-- how a number or a pointer is read; nothing else shows
abbrev pub shown_kind : PlainType → Option LoadKind
shown_kind (Int t) = Some (Num t)
shown_kind (Pointer t) = Some Ptr
shown_kind Void = None
shown_kind (Array t n) = None
shown_kind (Struct n) = None

-- The value at the first byte of an object. No object of a run has an unset byte of its own, so what stands for it never shows.
abbrev pub first_value : World → ℕ → LoadKind → Value
first_value w object kind = unwrap_or (read_cell kind (pos 0) (own_cell w.objects object (pos 0))) nothing

abbrev pub shown_as : World → ℕ → List ℕ → Option LoadKind → List ShownVariable
shown_as w object name None = []
shown_as w object name (Some kind) = record { name = name; value = shown_value (first_value w object kind) } ∷ []

-- the static objects, of which the first has this number among objects; a string literal has no name
abbrev pub shown_if_named : List ℕ → List ShownVariable → List ShownVariable
shown_if_named [] shown = []
shown_if_named (c ∷ cs) shown = shown

abbrev pub shown_statics : World → ℕ → List TypedObject → List ShownVariable
shown_statics w object [] = []
shown_statics w object (o ∷ os) =
    shown_if_named o.name.name (shown_as w object o.name.name (shown_kind o.ty)) ++ shown_statics w (object + 1) os

-- the variables of a call, parameters first, of which the first has this number among objects
abbrev pub shown_variables : World → ℕ → List VarName → List PlainType → List ShownVariable
shown_variables w object [] ts = []
shown_variables w object (n ∷ ns) [] = []
shown_variables w object (n ∷ ns) (t ∷ ts) = shown_as w object n.name (shown_kind t) ++ shown_variables w (object + 1) ns ts

-- the function of the innermost call, counted from 0
abbrev pub innermost : List Call → Option ℕ
innermost [] = None
innermost (c ∷ cs) = Some c.function

-- where no call is in progress, `running` has no variables
abbrev pub shown_list : Setup → World → ShownList
shown_list u w =
    record {
      statics = shown_statics w 1 u.program.statics;
      function = innermost w.calls;
      variables = shown_variables w (first_local w.calls) (running u w.calls).names (running u w.calls).locals;
    }

-- the value that shows of a live object is the one that a load gives, which tells nothing and takes nothing
abbrev pub ShownIsLoaded : Type 0
ShownIsLoaded =
    (rule : Rule) (cycle : List ℕ) (kind : LoadKind) (line object : ℕ) (w : World) →
    (object_at w.objects object).state ≡ live →
    IsWhole (object_at w.objects object) →
    bytes_of_kind kind ≤ (object_at w.objects object).size →
    load rule cycle kind line (value.Ptr object (pos 0)) (pos 0) w ≡ go (first_value w object kind) w
