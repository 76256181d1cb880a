-- `exec IMAGE`: verifies the image in IMAGE and runs it on the input, with the profile of the image where the job names none.
--   out     what the program writes
--   err     where the image is bad, the line that says so; else as for `run`
--   status  135, or the ending's
use Rattle.std.specs.Prelude.{ℕ, List}
use Rattle.ob_base.specs.Devices.{Reading}
use Rattle.ob_commands.specs.Answers.{Outcome}
use Rattle.ob_commands.specs.Parts.{Asked, OfImage, RunsOn}

abbrev pub Exec : Asked → (bytes : List ℕ) → Reading → Outcome → Type 0
Exec a bytes input o = OfImage a.job.argument bytes input o (λ image. RunsOn a image input o)
