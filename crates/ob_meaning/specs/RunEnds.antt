-- How runs end: by themselves, and for want of input only where the input fails.
use Rattle.std.specs.Prelude.{◌≡◌, ◌≢◌, ℕ, List}
use Rattle.ob_model.specs.declared.endings.Ending.TheVariants.{ReadFault, Spent, WriteFault, NoMemory}
use Rattle.ob_model.specs.declared.settings.RunSettings.{RunSettings}
use Rattle.ob_model.specs.Endings.{Finish, InputEnd, failed, plain}
use Rattle.ob_typed.specs.TypedTree.{TypedProgram}
use Rattle.ob_meaning.specs.Runs.{meaning}
use Rattle.ob_meaning.specs.World.{Rule}

-- no run ends with one of the machine's own endings, and with a failed read only where the input ends in a failure
abbrev pub EndsByItself : InputEnd → Finish → Type 0
EndsByItself input_end finish =
    (finish ≢ plain WriteFault) × (finish ≢ plain NoMemory) × (finish ≢ plain Spent) × (finish ≡ plain ReadFault → input_end ≡ failed)

abbrev pub RunsEndByThemselves : Type 0
RunsEndByThemselves =
    (program : TypedProgram) (rule : Rule) (settings : RunSettings) (cycle : List ℕ) (place : ℕ) (input : List ℕ) (input_end : InputEnd) (steps : ℕ) →
    EndsByItself input_end (meaning program rule settings cycle place input input_end steps).finish
