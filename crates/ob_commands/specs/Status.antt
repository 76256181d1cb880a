-- What the program ends with, as contracts see it.
use Rattle.std.specs.Prelude.{ℕ}

-- the exit status, and how many instructions the run did, 0 where there was none
pub record Ending : Type 0 where
  pub code : ℕ
  pub instructions : ℕ
