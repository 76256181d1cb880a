-- What words without a job and a source that isn't compiled came to, on plain data, and which commands run something. It serves the
-- proof.
use Rattle.std.specs.Prelude.{ℕ, Bool, true, false}
use Rattle.ob_tree.specs.declared.faults.SourceFault.{SourceFault}
use Rattle.ob_tree.specs.declared.faults.SourceFault.TheVariants as source
use Rattle.ob_first.specs.declared.refusal.Refusal.{Refusal}
use Rattle.ob_first.specs.declared.refusal.Refusal.TheVariants.{Fault, NotYet}
use Rattle.ob_settings.specs.declared.job.WordsFault.{WordsFault}
use Rattle.ob_settings.specs.declared.job.WordsFault.TheVariants as words
use Rattle.ob_settings.specs.declared.verb.Verb.{Verb}
use Rattle.ob_settings.specs.declared.verb.Verb.TheVariants as verb
use Rattle.ob_commands.specs.declared.answer.Answer.TheVariants as answer
use Rattle.ob_commands.specs.declared.came.Came.{Came}
use Rattle.ob_commands.specs.declared.came.Came.TheVariants.{Due, Starved}

abbrev pub faulty : SourceFault → Came
faulty source.NoMemory = Starved
faulty fault = Due (answer.Refused fault) 0

abbrev pub refused : Refusal → Came
refused (Fault fault) = faulty fault
refused NotYet = Due answer.NotYet 0

abbrev pub came_of_fault : WordsFault → Came
came_of_fault words.Usage = Due answer.Usage 0
came_of_fault words.NoMemory = Starved

-- a command that runs a source or an image, on a maker
abbrev pub runs : Verb → Bool
runs verb.Run = true
runs verb.Exec = true
runs _ = false
