-- The input of a run, by what its source tells before and after it, and output of which its sink took a part.
use Rattle.std.specs.Prelude.{◌≡◌, ℕ, List}
use Rattle.ob_base.specs.Devices.{Reading, Writing, IsWhole, IsCutShort}
use Rattle.ob_base.specs.Sink.{TakesPrefix}
use Rattle.ob_model.specs.Endings.{InputEnd, closed, failed}

-- it is all that the source had, or, where a read failed, what was read until then
abbrev pub IsInput : Reading → List ℕ → InputEnd → Type 0
IsInput r input closed = IsWhole r input
IsInput r input failed = IsCutShort r input

-- a prefix of the output was taken, and no write failed
pub record IsPartlySent (w : Writing) (output : List ℕ) : Type 0 where
  pub took : TakesPrefix w.taken_before w.taken_now w.tally_before w.tally_now output
  pub quiet : w.faults_now ≡ w.faults_before
