-- What typing (C99 6.5 to 6.8) says of a program, and what values depend on. Where the expressions of a program have the types
-- that the rules of 6.5 give them, and where arguments, initialisers and returned values have the types of what they are for,
-- each value has its type. Of the typed tree of a program all this holds.
use Rattle.ob_tree.specs.Programs.{ProgramTree}
use Rattle.ob_tree.specs.ProgramValid.{ValidProgram}
use Rattle.ob_typed.specs.Typing.{Types}
use Rattle.ob_typed.specs.WellTyped.{HasTypedFunctions}
use Rattle.ob_meaning.specs.Setup.{Setup}
use Rattle.ob_meaning.specs.ValueTypes.{IsTypedProgram}

abbrev pub RulesGiveValues : Type 0
RulesGiveValues = (u : Setup) → HasTypedFunctions u.program → IsTypedProgram u

abbrev pub TypedProgramsGiveValues : Type 0
TypedProgramsGiveValues = (u : Setup) (p : ProgramTree) → ValidProgram p → Types p u.program → IsTypedProgram u
