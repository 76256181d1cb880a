-- What holds of every typed tree.
use Rattle.ob_tree.specs.Programs.{ProgramTree}
use Rattle.ob_tree.specs.ProgramValid.{ValidProgram}
use Rattle.ob_typed.specs.TypedTree.{TypedProgram}
use Rattle.ob_typed.specs.Typing.{Types}
use Rattle.ob_typed.specs.WellTyped.{HasTypedFunctions}

-- each part of the typed tree of a program is well typed
abbrev pub TypedTreesAreWellTyped : Type 0
TypedTreesAreWellTyped = (p : ProgramTree) (t : TypedProgram) → ValidProgram p → Types p t → HasTypedFunctions t
