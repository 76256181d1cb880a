-- Laws of whole runs.
use Rattle.std.specs.Prelude.{◌≡◌, ℕ, ◌↔◌, List}
use Rattle.ob_model.specs.declared.endings.Ending.TheVariants.{Spent}
use Rattle.ob_code.specs.Rules.{IsVerified}
use Rattle.ob_code.specs.Start.{laid_out, most_instructions, run_from}
use Rattle.ob_model.specs.Limits.{stack_bytes}
use Rattle.ob_code.specs.State.{Setup, Space, State}
use Rattle.ob_machine.specs.Progress.{IsInnermost, Reaches}

-- on a verified image the next instruction is one of the innermost call's function, until the run ends
abbrev pub PlacesStayInTheFunction : Type 0
PlacesStayInTheFunction =
    (u : Setup) (place : ℕ) (input : List ℕ) (steps n : ℕ) (t : State) →
    IsVerified u.image →
    Reaches u (laid_out stack_bytes u.image.statics u.image.pointers u.settings) place input steps n t →
    IsInnermost u.image t.space.calls t.counter

-- a run is spent exactly where it did as many instructions as it may, and none of them ended it
abbrev pub SpentAtTheBound : Type 0
SpentAtTheBound =
    (u : Setup) (space : Space) (place : ℕ) (input : List ℕ) (steps : ℕ) →
    ((run_from u space place input steps).ending ≡ Spent)
    ↔ ((t : State) × Reaches u space place input steps (most_instructions u.image steps) t)
