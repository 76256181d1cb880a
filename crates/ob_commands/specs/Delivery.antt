-- How far the program has come with a job before the error sink is told of it, and how a line is told. These serve the proof.
use Rattle.std.specs.Prelude.{◌≡◌, ℕ, ◌≤◌, ◌⊎◌, ◌++◌, Bool, true, List, [], ⊤}
use Rattle.ob_base.specs.Devices.{Loading, Writing, IsSound, IsUnavailable, IsUnwritten, IsWritten, IsCutOff}
use Rattle.ob_model.specs.declared.endings.Ending.{Ending}
use Rattle.ob_model.specs.declared.endings.Ending.TheVariants as ending
use Rattle.ob_machine.specs.Devices.{IsPartlySent}
use Rattle.ob_report.specs.Lines.{ending_line}
use Rattle.ob_settings.specs.declared.job.Job.{Job}
use Rattle.ob_settings.specs.declared.verb.Verb.{Verb}
use Rattle.ob_settings.specs.declared.verb.Verb.TheVariants as verb
use Rattle.ob_watch.specs.Watching.{Watch}
use Rattle.ob_commands.specs.declared.answer.Answer.{Answer}
use Rattle.ob_commands.specs.declared.answer.Answer.TheVariants.{Done, Usage, FileFault, FileLong, Refused, Bad, Ran, NotYet}
use Rattle.ob_commands.specs.declared.came.Came.{Came}
use Rattle.ob_commands.specs.declared.came.Came.TheVariants.{Due, Cut, Lost, Starved}
use Rattle.ob_commands.specs.declared.line.Line.{Line}
use Rattle.ob_commands.specs.declared.line.Line.TheVariants.{Fixed, Made}
use Rattle.ob_commands.specs.Answers.{Outcome, TakesMemory, line_of, report_of, status_of}
use Rattle.ob_commands.specs.Parts.{Asked, Supply, IsBadImage, IsLong}

-- ---- what is due to the error sink

-- an answer's line, and behind that of a run the report, where one was asked for
abbrev pub err_of : (name : List ℕ) → (report : Bool) → List Watch → Answer → List ℕ
err_of name report ws (Ran e) = ending_line e ++ report_of report ws
err_of name report ws Done = []
err_of name report ws Usage = line_of name Usage
err_of name report ws FileFault = line_of name FileFault
err_of name report ws FileLong = line_of name FileLong
err_of name report ws (Refused fault) = line_of name (Refused fault)
err_of name report ws (Bad bad) = line_of name (Bad bad)
err_of name report ws NotYet = line_of name NotYet

-- by what the watchers have seen in the end
abbrev pub err_due : Asked → (seen : List Watch) → Answer → List ℕ
err_due a seen answer = err_of a.job.argument a.job.report seen answer

abbrev pub bytes_of : Line → List ℕ
bytes_of (Fixed text) = text.now
bytes_of (Made text) = text

-- a line was told with a status, or the sink failed
pub data Told (line : List ℕ) (due : ℕ) (err : Writing) (status : ℕ) : Type 0 where
  all : (told : IsWritten err line) (status_is : status ≡ due) → Told line due err status
  cut : (cut : IsCutOff err line) (status_is : status ≡ 143) → Told line due err status

-- ---- how far it has come

-- an outcome, of which the output sink has taken all that is due to it
pub record IsDue (a : Asked) (seen : List Watch) (P : Outcome → Type 0) (answer : Answer) (n : ℕ) (out : Writing) : Type 0 where
  pub outcome : Outcome
  pub comes : P outcome
  pub answer_is : outcome.answer ≡ answer
  pub err_is : outcome.err ≡ err_due a seen answer
  pub count : n ≡ outcome.instructions
  pub all_out : IsWritten out outcome.out

-- an outcome at which memory was wanting in the run, which the output sink has taken a prefix of
pub record IsLost (P : Outcome → Type 0) (n : ℕ) (out : Writing) : Type 0 where
  pub outcome : Outcome
  pub comes : P outcome
  pub keeps : outcome.keeps ≡ true
  pub sent : IsPartlySent out outcome.out
  pub count : n ≤ outcome.instructions

-- an outcome at which the output sink failed
pub record IsCut (P : Outcome → Type 0) (n : ℕ) (out : Writing) : Type 0 where
  pub outcome : Outcome
  pub comes : P outcome
  pub cut : IsCutOff out outcome.out
  pub count : n ≤ outcome.instructions

abbrev pub CameTo : Asked → (seen : List Watch) → (Outcome → Type 0) → (idle : Type 0) → Came → Writing → Type 0
CameTo a seen P idle (Due answer n) out = IsDue a seen P answer n out
CameTo a seen P idle (Cut n) out = IsCut P n out
CameTo a seen P idle (Lost n) out = IsLost P n out
CameTo a seen P idle Starved out = idle × IsUnwritten out

-- the same for a job that needs no maker and tells no watcher
abbrev pub ask_for : Job → Supply → List Watch → Asked
ask_for job supply watchers = record { job = job; supply = supply; watchers = watchers }

abbrev pub CameFor : Job → (Asked → Outcome → Type 0) → (idle : Type 0) → Came → Writing → Type 0
CameFor job Q idle came out =
    (supply : Supply) (watchers seen : List Watch) → CameTo (ask_for job supply watchers) seen (Q (ask_for job supply watchers)) idle came out

-- a command with a maker; one without takes any
abbrev pub TakesMaker : Verb → Type 0
TakesMaker verb.Run = ⊤
TakesMaker verb.Exec = ⊤
TakesMaker verb.Audit = ⊤
TakesMaker verb.Sample = ⊤
TakesMaker verb.Compile = ⊥
TakesMaker verb.Check = ⊥
TakesMaker verb.Migrate = ⊥

-- ---- its parts

-- where a run came to, by its ending
abbrev pub came_of : Ending → ℕ → Came
came_of ending.WriteFault n = Cut n
came_of ending.NoMemory n = Lost n
came_of e n = Due (Ran e) n

-- why a file wasn't loaded
abbrev pub IsNoFile : Loading → (name : List ℕ) → (most : ℕ) → Came → Type 0
IsNoFile l name most (Due FileFault n) = IsUnavailable l name × (n ≡ 0)
IsNoFile l name most (Due FileLong n) = IsLong l name most × (n ≡ 0)
IsNoFile l name most (Due answer n) = ⊥
IsNoFile l name most (Cut n) = ⊥
IsNoFile l name most (Lost n) = ⊥
IsNoFile l name most Starved = IsSound l

-- why there is no image to run
abbrev pub IsNoImage : List ℕ → Came → Type 0
IsNoImage bytes (Due (Bad bad) n) = IsBadImage bytes bad × (n ≡ 0)
IsNoImage bytes (Due answer n) = ⊥
IsNoImage bytes (Cut n) = ⊥
IsNoImage bytes (Lost n) = ⊥
IsNoImage bytes Starved = ⊤

-- bytes were written to the output sink, or it failed
abbrev pub IsPut : List ℕ → Came → Writing → Type 0
IsPut bytes (Due Done n) out = IsWritten out bytes × (n ≡ 0)
IsPut bytes (Due answer n) out = ⊥
IsPut bytes (Cut n) out = IsCutOff out bytes × (n ≡ 0)
IsPut bytes (Lost n) out = ⊥
IsPut bytes Starved out = ⊥

-- ---- what the error sink is told

-- its line was told, or there was no memory for it
abbrev pub Delivered : (name : List ℕ) → (report : Bool) → List Watch → Came → (err : Writing) → (status n : ℕ) → Type 0
Delivered name report ws (Due answer k) err status n =
    (n ≡ k) × (Told (err_of name report ws answer) (status_of answer) err status ⊎ (TakesMemory report answer × (status ≡ 144) × IsUnwritten err))
Delivered name report ws (Cut k) err status n = (n ≡ k) × (status ≡ 143) × IsUnwritten err
Delivered name report ws (Lost k) err status n = (n ≡ k) × (status ≡ 144) × IsUnwritten err
Delivered name report ws Starved err status n = (n ≡ 0) × (status ≡ 144) × IsUnwritten err
