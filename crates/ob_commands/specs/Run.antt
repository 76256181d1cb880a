-- `run FILE`: compiles the source in FILE and runs it.
--   input   untouched: a program that can be compiled so far reads nothing, and is run on an empty input
--   out     what the program writes
--   err     where the source is at fault or can't be compiled yet, the line that says so; else the line of the run's ending,
--           unless the program ended by itself, and with --report what each watcher was told
--   status  the fault's, 145 of a source that can't be compiled yet, or the ending's
use Rattle.std.specs.Prelude.{ℕ, List, []}
use Rattle.ob_base.specs.Devices.{Reading, IsUnread}
use Rattle.ob_model.specs.Endings.{closed}
use Rattle.ob_commands.specs.Answers.{Outcome}
use Rattle.ob_commands.specs.Parts.{Asked, Language, OfSource, RunsWith}

abbrev pub Run : (lang : Language) → Asked → (source : List ℕ) → Reading → Outcome → Type 0
Run lang a source input o = OfSource lang.compiled a.job.argument source input o (λ program. IsUnread input × RunsWith a (lang.code_of program) [] closed o)
