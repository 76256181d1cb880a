-- In each mode a run goes as the one where objects are unlimited.
use Rattle.std.proofs.Common.{◌≡◌, ◌≢◌, ℕ, None, refl, subst}
use Rattle.ob_model.specs.declared.settings.Mode.{Mode}
use Rattle.ob_model.specs.declared.settings.Mode.TheVariants.{Oblivious, Boundless}
use Rattle.ob_model.specs.declared.values.Value.{Value}
use Rattle.ob_model.specs.Endings.{Finish, plain, dead, dropped}
use Rattle.ob_meaning.specs.FirstDrop.{GoesOnFrom, RunsOfSettingsAreAlike, VanishingRunsDropNothing}
use Rattle.ob_meaning.specs.Runs.{finish_of, meaning, meaning_end, outcome_of, run, setup_of}
use Rattle.ob_meaning.specs.Setup.{rule_in, unlimited_rule_in}
use Rattle.ob_meaning.specs.World.{Run, stop, go, end_of, vanish}
use Rattle.ob_meaning.proofs.FirstDrop.{to_the_first_drop}
use Rattle.ob_meaning.proofs.Quiet.{IsNoDrop}
use Rattle.ob_meaning.proofs.VanishingRuns.{vanishing_run}

no_drop_is : (finish : Finish) (line : ℕ) → IsNoDrop finish → finish ≢ dropped line
no_drop_is finish line h e = subst IsNoDrop e h

pub nothing_dropped : VanishingRunsDropNothing
nothing_dropped program settings cycle place input input_end steps line =
    let h = vanishing_run (setup_of program vanish settings cycle input_end) place input steps in
    (no_drop_is (finish_of (run (setup_of program vanish settings cycle input_end) place input steps)) line h.0, h.1)

alike_itself : (r : Run Value) → IsNoDrop (finish_of r) → (end_of r).first_drop ≡ None → GoesOnFrom (finish_of r) (outcome_of r) (outcome_of r) (end_of r)
alike_itself (go v w) h none = (refl, none)
alike_itself (stop (plain e) w) h none = (refl, none)
alike_itself (stop (dead line) w) h none = (refl, none)
alike_itself (stop (dropped line) w) h none = absurd h

pub runs_of_settings : RunsOfSettingsAreAlike
runs_of_settings program settings cycle place input input_end steps = by_mode settings.mode
  where
    by_mode : (mode : Mode) → GoesOnFrom (meaning program (unlimited_rule_in mode settings.store) settings cycle place input input_end steps).finish (meaning program (unlimited_rule_in mode settings.store) settings cycle place input input_end steps) (meaning program (rule_in mode settings.store) settings cycle place input input_end steps) (meaning_end program (rule_in mode settings.store) settings cycle place input input_end steps)
    by_mode Oblivious =
        let u = setup_of program vanish settings cycle input_end in
        let h = vanishing_run u place input steps in
        alike_itself (run u place input steps) h.0 h.1
    by_mode Boundless = to_the_first_drop program settings cycle place input input_end steps settings.store
