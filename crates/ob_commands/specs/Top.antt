-- What `top` owes: one clause. The words ask for a job or for none; by its command the job comes to an outcome; the outcome is
-- delivered to the sinks. What sources are is the compiler's to say.
use Rattle.std.specs.Prelude.{◌≡◌, ℕ, ◌≤◌, Bool, true, false, List, [], length, Option, Some, None}
use Rattle.ob_base.specs.Devices.{Loading, Reading, Writing, IsSound, IsUnread, IsUnwritten, IsWritten, IsCutOff}
use Rattle.ob_machine.specs.Devices.{IsPartlySent}
use Rattle.ob_watch.specs.Watching.{Watch}
use Rattle.ob_settings.specs.declared.job.Job.{Job}
use Rattle.ob_settings.specs.declared.verb.Verb.{Verb}
use Rattle.ob_settings.specs.declared.verb.Verb.TheVariants as verb
use Rattle.ob_settings.specs.Jobs.{AsksForJob, IsJobFor, IsUsageFor}
use Rattle.ob_commands.specs.declared.answer.Answer.TheVariants.{Usage, NotYet}
use Rattle.ob_commands.specs.Answers.{Outcome, status_of, told_why, TakesMemory}
use Rattle.ob_commands.specs.Parts.{Asked, Language, Supply, asked, OfFile, most_source_bytes, most_image_bytes}
use Rattle.ob_commands.specs.Run.{Run}
use Rattle.ob_commands.specs.Exec.{Exec}
use Rattle.ob_commands.specs.Check.{Check}
use Rattle.ob_commands.specs.Migrate.{Migrate}

-- all devices, before and after
pub record Devices : Type 0 where
  pub folder : Loading
  pub input : Reading
  pub out : Writing
  pub err : Writing

-- what was handed in beside the devices
pub record Handed : Type 0 where
  pub words : List (List ℕ)
  pub makers : List Supply
  pub watchers : List Watch

-- ---- commands

-- nothing came of the folder and the input
pub record IsIdle (folder : Loading) (input : Reading) : Type 0 where
  pub sound : IsSound folder
  pub unread : IsUnread input

-- there is one line to tell, and nothing else is done
pub record Says (folder : Loading) (input : Reading) (line : Outcome) (o : Outcome) : Type 0 where
  pub idle : IsIdle folder input
  pub is : o ≡ line

abbrev pub OnSource : Asked → Loading → Reading → Outcome → (List ℕ → Type 0) → Type 0
OnSource a folder input o Then = OfFile a most_source_bytes folder input o Then

abbrev pub OnImage : Asked → Loading → Reading → Outcome → (List ℕ → Type 0) → Type 0
OnImage a folder input o Then = OfFile a most_image_bytes folder input o Then

-- a command that isn't there yet: its file isn't loaded
abbrev pub IsLater : Asked → Loading → Reading → Outcome → Type 0
IsLater a folder input o = Says folder input (told_why a.job.argument NotYet) o

-- what a job with this command comes to
abbrev pub ComesOf : Language → Verb → Asked → Loading → Reading → Outcome → Type 0
ComesOf lang verb.Run a folder input o = OnSource a folder input o (λ source. Run lang a source input o)
ComesOf lang verb.Compile a folder input o = IsLater a folder input o
ComesOf lang verb.Exec a folder input o = OnImage a folder input o (λ bytes. Exec a bytes input o)
ComesOf lang verb.Check a folder input o = OnSource a folder input o (λ source. Check lang.checked a source input o)
ComesOf lang verb.Audit a folder input o = IsLater a folder input o
ComesOf lang verb.Sample a folder input o = IsLater a folder input o
ComesOf lang verb.Migrate a folder input o = OnImage a folder input o (λ bytes. Migrate a bytes input o)

-- what the words ask for, where so many makers are at hand: a job, or none
abbrev pub Ask : List (List ℕ) → (makers : ℕ) → Option Job → Type 0
Ask words makers None = IsUsageFor makers words
Ask words makers (Some job) = IsJobFor makers words job

-- words that ask for none: no device is asked for anything
abbrev pub Comes : Language → Option Job → Handed → Devices → Outcome → Type 0
Comes lang None h d o = Says d.folder d.input (told_why [] Usage) o
Comes lang (Some job) h d o = ComesOf lang job.verb (asked job h.makers h.watchers) d.folder d.input o

abbrev pub wants_report : Option Job → Bool
wants_report None = false
wants_report (Some job) = job.report

-- ---- delivery. The output comes first; a sink that fails ends all; where memory is wanting in a run
-- that keeps stores outside of objects, the output has taken a prefix, and where there is none for what is due to the error sink, that
-- gets nothing.

pub data Delivers (report : Bool) (o : Outcome) (out err : Writing) (status instructions : ℕ) : Type 0 where
  whole : (all_out : IsWritten out o.out) (all_err : IsWritten err o.err) (status_is : status ≡ status_of o.answer) (count : instructions ≡ o.instructions) → Delivers report o out err status instructions
  out_failed : (cut : IsCutOff out o.out) (no_err : IsUnwritten err) (status_is : status ≡ 143) (count : instructions ≤ o.instructions) → Delivers report o out err status instructions
  err_failed : (all_out : IsWritten out o.out) (cut : IsCutOff err o.err) (status_is : status ≡ 143) (count : instructions ≡ o.instructions) → Delivers report o out err status instructions
  lost : (keeps : o.keeps ≡ true) (sent : IsPartlySent out o.out) (no_err : IsUnwritten err) (status_is : status ≡ 144) (count : instructions ≤ o.instructions) → Delivers report o out err status instructions
  starved : (takes : TakesMemory report o.answer) (all_out : IsWritten out o.out) (no_err : IsUnwritten err) (status_is : status ≡ 144) (count : instructions ≡ o.instructions) → Delivers report o out err status instructions

-- ---- the clause

-- the words were read, and what they ask for was done
pub record Does (lang : Language) (h : Handed) (d : Devices) (status instructions : ℕ) : Type 0 where
  pub job : Option Job
  pub asks : Ask h.words (length h.makers) job
  pub outcome : Outcome
  pub comes : Comes lang job h d outcome
  pub delivers : Delivers (wants_report job) outcome d.out d.err status instructions

-- the words ask for a job, and there was no memory to begin with it: no load and no read failed, nothing was read, written and run
pub record IsHelpless (h : Handed) (d : Devices) (status instructions : ℕ) : Type 0 where
  pub asks : AsksForJob h.words
  pub status_is : status ≡ 144
  pub idle : IsIdle d.folder d.input
  pub out : IsUnwritten d.out
  pub err : IsUnwritten d.err
  pub count : instructions ≡ 0

pub data Answers (lang : Language) (h : Handed) (d : Devices) (status instructions : ℕ) : Type 0 where
  does : (it : Does lang h d status instructions) → Answers lang h d status instructions
  helpless : (it : IsHelpless h d status instructions) → Answers lang h d status instructions
