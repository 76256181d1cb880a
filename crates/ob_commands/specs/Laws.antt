-- Laws of the clause: each row of the table of causes, one way or both, for every language whose sources come to one outcome each.
use Rattle.std.specs.Prelude.{◌≡◌, ◌≢◌, ℕ, ◌<◌, ◌≤◌, ◌⊎◌, ℤ, List, [], length, ⊤, Option, Some, None}
use Rattle.std.specs.FinMap.{get}
use Rattle.ob_base.specs.Faults.{NoFault, Rose}
use Rattle.ob_base.specs.Folder.{Files, IsMissing}
use Rattle.ob_base.specs.Sink.{TakesPrefix}
use Rattle.ob_base.specs.Devices.{Loading, Writing, IsSound, IsUnavailable, IsUnread, IsWritten}
use Rattle.ob_tree.specs.declared.faults.SourceFault.{SourceFault}
use Rattle.ob_tree.specs.declared.faults.SourceFault.TheVariants as source
use Rattle.ob_model.specs.declared.endings.Ending.{Ending}
use Rattle.ob_model.specs.declared.endings.Ending.TheVariants as ending
use Rattle.ob_model.specs.Endings as endings
use Rattle.ob_model.specs.Endings.{closed}
use Rattle.ob_code.specs.declared.faults.BadImage.{BadImage}
use Rattle.ob_settings.specs.declared.job.Job.{Job}
use Rattle.ob_settings.specs.declared.verb.Verb.{Verb}
use Rattle.ob_settings.specs.declared.verb.Verb.TheVariants as verb
use Rattle.ob_settings.specs.Jobs.{IsJobFor, IsUsage, IsUsageFor}
use Rattle.ob_commands.specs.declared.answer.Answer.{Answer}
use Rattle.ob_commands.specs.declared.answer.Answer.TheVariants.{Done, Usage, FileFault, FileLong, Refused, Ran, NotYet}
use Rattle.ob_commands.specs.Answers.{Outcome, status_of, told_why, wrote}
use Rattle.ob_commands.specs.Parts.{Language, Sources, IsLoaded, IsLong, asked, final_of, most_source_bytes, run_outcome}
use Rattle.ob_commands.specs.Check.{ok_line}
use Rattle.ob_commands.specs.Top.{Answers, Ask, Comes, Devices, Does, Handed}
use Rattle.ob_commands.specs.Causes.{CauseOf, CannotYet, HasBadImage, HasEnding, HasFault, Loads, sources_of}

-- ---- what is known of sources

-- each source comes to one outcome at most, and no fault of a source is want of memory
pub record IsExact (s : Sources) : Type 0 where
  pub one_fault : (text : List ℕ) (f g : SourceFault) → s.IsFaultOf text f → s.IsFaultOf text g → f ≡ g
  pub one_program : (text : List ℕ) (p q : s.Program) → s.IsAccepted text p → s.IsAccepted text q → p ≡ q
  pub fault_or_later : (text : List ℕ) (f : SourceFault) → s.IsFaultOf text f → ¬ s.IsLater text
  pub fault_or_program : (text : List ℕ) (f : SourceFault) (p : s.Program) → s.IsFaultOf text f → ¬ s.IsAccepted text p
  pub later_or_program : (text : List ℕ) (p : s.Program) → s.IsLater text → ¬ s.IsAccepted text p
  pub not_memory : (text : List ℕ) → ¬ s.IsFaultOf text source.NoMemory

-- ---- the table

-- each outcome has the cause that the table gives for its answer
abbrev pub AnswersHaveCauses : Language → Type 0
AnswersHaveCauses lang = (job : Option Job) (h : Handed) (d : Devices) (o : Outcome) → Comes lang job h d o → CauseOf lang o.answer job h d

-- ---- whatever the status

-- a status that any other gives way to: of a failed write, and of want of memory
abbrev pub GivesWay : ℕ → Type 0
GivesWay status = (status ≡ 143) ⊎ (status ≡ 144)

-- all that is due was told, and the answer has its cause
pub record IsTold (lang : Language) (h : Handed) (d : Devices) (status n : ℕ) : Type 0 where
  pub job : Option Job
  pub asks : Ask h.words (length h.makers) job
  pub outcome : Outcome
  pub comes : Comes lang job h d outcome
  pub cause : CauseOf lang outcome.answer job h d
  pub out : IsWritten d.out outcome.out
  pub err : IsWritten d.err outcome.err
  pub status_is : status ≡ status_of outcome.answer
  pub count : n ≡ outcome.instructions

abbrev pub AllIsTold : Language → Type 0
AllIsTold lang = (h : Handed) (d : Devices) (status n : ℕ) → Answers lang h d status n → ¬ GivesWay status → IsTold lang h d status n

-- a sink took a prefix of what was due to it
abbrev pub Takes : Writing → List ℕ → Type 0
Takes w due = TakesPrefix w.taken_before w.taken_now w.tally_before w.tally_now due

abbrev pub SinksTakePrefixes : Language → Type 0
SinksTakePrefixes lang = (h : Handed) (d : Devices) (status n : ℕ) (it : Does lang h d status n) → Takes d.out it.outcome.out × Takes d.err it.outcome.err

-- what is due is this: it was told; or a write failed or memory was wanting, and each sink took a prefix
pub record IsDelivered (d : Devices) (o : Outcome) (status n : ℕ) : Type 0 where
  pub out : IsWritten d.out o.out
  pub err : IsWritten d.err o.err
  pub status_is : status ≡ status_of o.answer
  pub count : n ≡ o.instructions

abbrev pub ComesTo : Devices → Outcome → (status n : ℕ) → Type 0
ComesTo d o status n = IsDelivered d o status n ⊎ (GivesWay status × Takes d.out o.out × Takes d.err o.err)

-- each answer but that of a run and of work that was done is told by its line alone
abbrev pub IsRefusal : Answer → Type 0
IsRefusal Done = ⊥
IsRefusal (Ran e) = ⊥
IsRefusal _ = ⊤

abbrev pub name_of : Option Job → List ℕ
name_of None = []
name_of (Some job) = job.argument

abbrev pub RefusalsAreTold : Language → Type 0
RefusalsAreTold lang = (job : Option Job) (h : Handed) (d : Devices) (o : Outcome) → Comes lang job h d o → IsRefusal o.answer → o ≡ told_why (name_of job) o.answer

-- no other status comes
abbrev pub NoOther : Language → Type 0
NoOther lang = (h : Handed) (d : Devices) (status n : ℕ) → Answers lang h d status n → status ≤ 145

-- ---- faults of devices

-- 143 comes only where a write failed
abbrev pub WriteFaultOnly : Language → Type 0
WriteFaultOnly lang =
    (h : Handed) (d : Devices) (status n : ℕ) → Answers lang h d status n → status ≡ 143 →
    Rose d.out.faults_before d.out.faults_now ⊎ Rose d.err.faults_before d.err.faults_now

-- 142 comes only where a read failed
abbrev pub ReadFaultOnly : Language → Type 0
ReadFaultOnly lang =
    (h : Handed) (d : Devices) (status n : ℕ) → Answers lang h d status n → status ≡ 142 → Rose d.input.faults_before d.input.faults_now

-- where a sink failed, no status comes that says nothing of it, and where a load failed, none but 129
abbrev pub FaultsAreTold : Language → Type 0
FaultsAreTold lang =
    (h : Handed) (d : Devices) (status n : ℕ) → Answers lang h d status n → ¬ GivesWay status →
    ((d.out.faults_now ≡ d.out.faults_before) × (d.err.faults_now ≡ d.err.faults_before)) × (status ≢ 129 → IsSound d.folder)

-- but for `exec` the input is left alone
abbrev pub InputIsLeft : Language → Type 0
InputIsLeft lang =
    (h : Handed) (d : Devices) (status n : ℕ) → Answers lang h d status n →
    ((job : Job) → IsJobFor (length h.makers) h.words job → job.verb ≢ verb.Exec) → IsUnread d.input

-- ---- words

-- 128 comes exactly where the words ask for no job; words that are no line of the command line take no memory
abbrev pub UsageOnly : Language → Type 0
UsageOnly lang = (h : Handed) (d : Devices) (status n : ℕ) → Answers lang h d status n → status ≡ 128 → IsUsageFor (length h.makers) h.words

abbrev pub UsageWhen : Language → Type 0
UsageWhen lang =
    (h : Handed) (d : Devices) (status n : ℕ) → Answers lang h d status n → IsUsageFor (length h.makers) h.words → ComesTo d (told_why [] Usage) status n

abbrev pub UsageTakesNoMemory : Language → Type 0
UsageTakesNoMemory lang = (h : Handed) (d : Devices) (status n : ℕ) → Answers lang h d status n → IsUsage h.words → (status ≡ 128) ⊎ (status ≡ 143)

-- ---- files

abbrev pub AsksFor : Handed → Job → Type 0
AsksFor h job = IsJobFor (length h.makers) h.words job

pub record CannotLoad (h : Handed) (d : Devices) : Type 0 where
  pub job : Job
  pub asks : AsksFor h job
  pub cause : IsUnavailable d.folder job.argument

abbrev pub FileFaultOnly : Language → Type 0
FileFaultOnly lang = (h : Handed) (d : Devices) (status n : ℕ) → Answers lang h d status n → status ≡ 129 → CannotLoad h d

pub record HasLongFile (h : Handed) (d : Devices) : Type 0 where
  pub job : Job
  pub asks : AsksFor h job
  pub most : ℕ
  pub loads : Loads job.verb most
  pub cause : IsLong d.folder job.argument most

abbrev pub FileLongOnly : Language → Type 0
FileLongOnly lang = (h : Handed) (d : Devices) (status n : ℕ) → Answers lang h d status n → status ≡ 130 → HasLongFile h d

-- the folder tells a file of this name with these bytes, and no load failed
pub record HasFile (l : Loading) (name bytes : List ℕ) : Type 0 where
  pub files : Files
  pub tells : l.files ≡ Some files
  pub has : get files name ≡ Some bytes
  pub quiet : NoFault l.faults_before l.faults_now

abbrev pub FileLongWhen : Language → Type 0
FileLongWhen lang =
    (h : Handed) (d : Devices) (status n : ℕ) (job : Job) (bytes : List ℕ) (most : ℕ) → Answers lang h d status n → AsksFor h job → Loads job.verb most →
    HasFile d.folder job.argument bytes → most < length bytes → ComesTo d (told_why job.argument FileLong) status n

-- a file that a told folder doesn't have, and a folder that failed
abbrev pub MissingWhen : Language → Type 0
MissingWhen lang =
    (h : Handed) (d : Devices) (status n : ℕ) (job : Job) (most : ℕ) → Answers lang h d status n → AsksFor h job → Loads job.verb most →
    IsMissing d.folder.files job.argument → ComesTo d (told_why job.argument FileFault) status n

pub record FailedTold (h : Handed) (d : Devices) (status n : ℕ) : Type 0 where
  pub job : Job
  pub asks : AsksFor h job
  pub told : ComesTo d (told_why job.argument FileFault) status n

abbrev pub FailedWhen : Language → Type 0
FailedWhen lang = (h : Handed) (d : Devices) (status n : ℕ) → Answers lang h d status n → ¬ IsSound d.folder → FailedTold h d status n

-- ---- sources

-- the commands that take a source
abbrev pub TakesSource : Verb → Type 0
TakesSource verb.Run = ⊤
TakesSource verb.Check = ⊤
TakesSource _ = ⊥

-- the file is a source of a job of this command
pub record HasText (h : Handed) (d : Devices) (v : Verb) (job : Job) (text : List ℕ) : Type 0 where
  pub asks : AsksFor h job
  pub verb_is : job.verb ≡ v
  pub file : HasFile d.folder job.argument text
  pub short : length text ≤ most_source_bytes

abbrev pub FaultWhen : Language → Type 0
FaultWhen lang =
    (h : Handed) (d : Devices) (status n : ℕ) (v : Verb) (job : Job) (text : List ℕ) (fault : SourceFault) → Answers lang h d status n → TakesSource v →
    HasText h d v job text → (sources_of lang v).IsFaultOf text fault → ComesTo d (told_why job.argument (Refused fault)) status n

abbrev pub LaterWhen : Language → Type 0
LaterWhen lang =
    (h : Handed) (d : Devices) (status n : ℕ) (v : Verb) (job : Job) (text : List ℕ) → Answers lang h d status n → TakesSource v → HasText h d v job text →
    (sources_of lang v).IsLater text → ComesTo d (told_why job.argument NotYet) status n

-- an accepted source is run as its image says
abbrev pub RunWhen : Language → Type 0
RunWhen lang =
    (h : Handed) (d : Devices) (status n : ℕ) (job : Job) (text : List ℕ) (program : lang.compiled.Program) → Answers lang h d status n →
    HasText h d verb.Run job text → lang.compiled.IsAccepted text program →
    (let a = asked job h.makers h.watchers in ComesTo d (run_outcome a (final_of a (lang.code_of program) [] closed)) status n)

-- of a source that is checked, `ok` is written exactly where it is accepted
abbrev pub CheckWhen : Language → Type 0
CheckWhen lang =
    (h : Handed) (d : Devices) (status n : ℕ) (job : Job) (text : List ℕ) (program : lang.checked.Program) → Answers lang h d status n →
    HasText h d verb.Check job text → lang.checked.IsAccepted text program → ComesTo d (wrote ok_line) status n

pub record IsChecked (lang : Language) (d : Devices) (job : Job) (status n : ℕ) : Type 0 where
  pub text : List ℕ
  pub from : IsLoaded d.folder job.argument most_source_bytes text
  pub program : lang.checked.Program
  pub accepted : lang.checked.IsAccepted text program
  pub status_is : status ≡ 0
  pub out : IsWritten d.out ok_line
  pub err : IsWritten d.err []
  pub count : n ≡ 0

abbrev pub CheckOnly : Language → Type 0
CheckOnly lang =
    (h : Handed) (d : Devices) (status n : ℕ) (job : Job) → Answers lang h d status n → AsksFor h job → job.verb ≡ verb.Check → status < 128 →
    IsChecked lang d job status n

-- the faults of a source come only where it has them
pub record FaultTold (lang : Language) (h : Handed) (d : Devices) (status n : ℕ) : Type 0 where
  pub job : Job
  pub asks : AsksFor h job
  pub fault : SourceFault
  pub has : HasFault lang job.verb (asked job h.makers h.watchers) d.folder fault
  pub told : IsTold lang h d status n
  pub is : told.outcome.answer ≡ Refused fault

abbrev pub FaultOnly : Language → Type 0
FaultOnly lang =
    (h : Handed) (d : Devices) (status n : ℕ) → Answers lang h d status n → 131 ≤ status → status ≤ 134 → FaultTold lang h d status n

-- ---- images and runs

pub record BadTold (lang : Language) (h : Handed) (d : Devices) : Type 0 where
  pub job : Job
  pub asks : AsksFor h job
  pub bad : BadImage
  pub has : HasBadImage job.verb (asked job h.makers h.watchers) d.folder bad

abbrev pub BadOnly : Language → Type 0
BadOnly lang = (h : Handed) (d : Devices) (status n : ℕ) → Answers lang h d status n → status ≡ 135 → BadTold lang h d

-- 136 to 142 come only where the definition's run ends so
pub record RanTo (lang : Language) (h : Handed) (d : Devices) (status : ℕ) : Type 0 where
  pub job : Job
  pub asks : AsksFor h job
  pub ending : Ending
  pub status_is : status ≡ endings.status_of ending
  pub ended : HasEnding lang job.verb (asked job h.makers h.watchers) d ending

abbrev pub EndingOnly : Language → Type 0
EndingOnly lang = (h : Handed) (d : Devices) (status n : ℕ) → Answers lang h d status n → 136 ≤ status → status ≤ 142 → RanTo lang h d status

-- a program's own status comes only of a run that ended so, or of a command that did its work
pub data IsOwn (answer : Answer) : Type 0 where
  done : (is : answer ≡ Done) → IsOwn answer
  ended : (number : ℤ) (is : answer ≡ Ran (ending.Ended number)) → IsOwn answer

abbrev pub OwnOnly : Language → Type 0
OwnOnly lang =
    (h : Handed) (d : Devices) (status n : ℕ) → Answers lang h d status n → status < 128 → (it : IsTold lang h d status n) × IsOwn it.outcome.answer

-- 145 comes only where the command, the source or the image can't be done yet
pub record LaterTold (lang : Language) (h : Handed) (d : Devices) : Type 0 where
  pub job : Job
  pub asks : AsksFor h job
  pub cause : CannotYet lang job.verb (asked job h.makers h.watchers) d.folder

abbrev pub NotYetOnly : Language → Type 0
NotYetOnly lang = (h : Handed) (d : Devices) (status n : ℕ) → Answers lang h d status n → status ≡ 145 → LaterTold lang h d
