-- How a run with a bounded list of granules outside of objects stands to the run where objects are unlimited.
use Rattle.std.specs.Prelude.{◌≡◌, ◌≢◌, ℕ, List, length, Some, None}
use Rattle.ob_model.specs.declared.settings.RunSettings.{RunSettings}
use Rattle.ob_model.specs.Endings.{Agrees, Finish, InputEnd, Outcome, plain, dead, dropped}
use Rattle.ob_typed.specs.TypedTree.{TypedProgram}
use Rattle.ob_meaning.specs.Runs.{meaning, meaning_end}
use Rattle.ob_meaning.specs.Setup.{rule_of, unlimited_rule_of}
use Rattle.ob_meaning.specs.World.{World, vanish, kept, unlimited}

-- Where the unlimited run ends by itself, the bounded one is the same, and nothing was dropped. Where it ends because one granule
-- too many would be kept, the bounded run begins as it does, and the store that is its last event is the first that drops.
abbrev pub GoesOnFrom : Finish → (unlimited_run bounded_run : Outcome) → (bounded_end : World) → Type 0
GoesOnFrom (plain e) unlimited_run bounded_run bounded_end =
    (bounded_run ≡ unlimited_run) × (bounded_end.first_drop ≡ None)
GoesOnFrom (dead line) unlimited_run bounded_run bounded_end =
    (bounded_run ≡ unlimited_run) × (bounded_end.first_drop ≡ None)
GoesOnFrom (dropped line) unlimited_run bounded_run bounded_end =
    Agrees bounded_run unlimited_run × (bounded_end.first_drop ≡ Some (length unlimited_run.events))

abbrev pub RunsAreAlikeToTheFirstDrop : Type 0
RunsAreAlikeToTheFirstDrop =
    (program : TypedProgram) (settings : RunSettings) (cycle : List ℕ) (place : ℕ) (input : List ℕ) (input_end : InputEnd) (steps cap : ℕ) →
    GoesOnFrom (meaning program (unlimited cap) settings cycle place input input_end steps).finish (meaning program (unlimited cap) settings cycle place input input_end steps) (meaning program (kept cap) settings cycle place input input_end steps) (meaning_end program (kept cap) settings cycle place input input_end steps)

-- where stray accesses vanish, nothing is dropped
abbrev pub VanishingRunsDropNothing : Type 0
VanishingRunsDropNothing =
    (program : TypedProgram) (settings : RunSettings) (cycle : List ℕ) (place : ℕ) (input : List ℕ) (input_end : InputEnd) (steps line : ℕ) →
    ((meaning program vanish settings cycle place input input_end steps).finish ≢ dropped line)
    × ((meaning_end program vanish settings cycle place input input_end steps).first_drop ≡ None)

-- so in each mode the run with the mode's rule goes as the one where objects are unlimited
abbrev pub RunsOfSettingsAreAlike : Type 0
RunsOfSettingsAreAlike =
    (program : TypedProgram) (settings : RunSettings) (cycle : List ℕ) (place : ℕ) (input : List ℕ) (input_end : InputEnd) (steps : ℕ) →
    GoesOnFrom (meaning program (unlimited_rule_of settings) settings cycle place input input_end steps).finish (meaning program (unlimited_rule_of settings) settings cycle place input input_end steps) (meaning program (rule_of settings) settings cycle place input input_end steps) (meaning_end program (rule_of settings) settings cycle place input input_end steps)

-- a machine's run that agrees with the bounded run agrees with the unlimited one
abbrev pub AgreementGoesThrough : Type 0
AgreementGoesThrough =
    (machine_run unlimited_run bounded_run : Outcome) (bounded_end : World) →
    Agrees machine_run bounded_run →
    GoesOnFrom unlimited_run.finish unlimited_run bounded_run bounded_end →
    Agrees machine_run unlimited_run
