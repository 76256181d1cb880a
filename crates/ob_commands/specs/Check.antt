-- `check FILE`: compiles the source in FILE as far as its faults go, and runs nothing.
--   input   untouched
--   out     of an accepted source, `ok` and a line feed
--   err     of a source at fault, the line that says so
--   status  the fault's, or 0
use Rattle.std.specs.Prelude.{◌≡◌, ℕ, List, codes}
use Rattle.ob_base.specs.Devices.{Reading, IsUnread}
use Rattle.ob_commands.specs.Answers.{Outcome, wrote}
use Rattle.ob_commands.specs.Parts.{Asked, Sources, OfSource}

abbrev pub ok_line : List ℕ
ok_line = codes "ok\n"

abbrev pub Check : Sources → Asked → (source : List ℕ) → Reading → Outcome → Type 0
Check s a source input o = OfSource s a.job.argument source input o (λ program. IsUnread input × (o ≡ wrote ok_line))
