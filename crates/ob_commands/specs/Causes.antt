-- Answers and their causes: one table, a line for each answer, with what must have been so for it to come.
use Rattle.std.specs.Prelude.{◌≡◌, ℕ, List, [], ⊤, Option, Some, None}
use Rattle.ob_base.specs.Devices.{Loading, Reading, IsUnavailable}
use Rattle.ob_tree.specs.declared.faults.SourceFault.{SourceFault}
use Rattle.ob_model.specs.declared.endings.Ending.{Ending}
use Rattle.ob_model.specs.Endings.{InputEnd, closed}
use Rattle.ob_code.specs.declared.faults.BadImage.{BadImage}
use Rattle.ob_code.specs.declared.image.Image.{Image}
use Rattle.ob_code.specs.Rules.{IsVerified}
use Rattle.ob_image.specs.Faults.{Spells}
use Rattle.ob_machine.specs.Devices.{IsInput}
use Rattle.ob_settings.specs.declared.job.Job.{Job}
use Rattle.ob_settings.specs.declared.verb.Verb.{Verb}
use Rattle.ob_settings.specs.declared.verb.Verb.TheVariants as verb
use Rattle.ob_commands.specs.declared.answer.Answer.{Answer}
use Rattle.ob_commands.specs.declared.answer.Answer.TheVariants.{Done, Usage, FileFault, FileLong, Refused, Bad, Ran, NotYet}
use Rattle.ob_commands.specs.Parts.{Asked, Language, Sources, IsBadImage, IsLoaded, IsLong, asked, final_of, most_image_bytes, most_source_bytes}
use Rattle.ob_commands.specs.Top.{Devices, Handed}

-- ---- what a job speaks of

-- the most bytes of the file that a command loads; a command that isn't there yet loads none
abbrev pub Loads : Verb → ℕ → Type 0
Loads verb.Run most = most ≡ most_source_bytes
Loads verb.Exec most = most ≡ most_image_bytes
Loads verb.Migrate most = most ≡ most_image_bytes
Loads verb.Compile most = ⊥
Loads verb.Check most = most ≡ most_source_bytes
Loads verb.Audit most = ⊥
Loads verb.Sample most = ⊥

abbrev pub HasSource : Verb → Asked → Loading → List ℕ → Type 0
HasSource verb.Run a folder source = IsLoaded folder a.job.argument most_source_bytes source
HasSource verb.Check a folder source = IsLoaded folder a.job.argument most_source_bytes source
HasSource _ a folder source = ⊥

-- what is known of the sources of a command
abbrev pub sources_of : Language → Verb → Sources
sources_of lang verb.Check = lang.checked
sources_of lang _ = lang.compiled

abbrev pub HasBytes : Verb → Asked → Loading → List ℕ → Type 0
HasBytes verb.Exec a folder bytes = IsLoaded folder a.job.argument most_image_bytes bytes
HasBytes verb.Migrate a folder bytes = IsLoaded folder a.job.argument most_image_bytes bytes
HasBytes _ a folder bytes = ⊥

-- ---- causes

pub record HasFault (lang : Language) (v : Verb) (a : Asked) (folder : Loading) (fault : SourceFault) : Type 0 where
  pub source : List ℕ
  pub has : HasSource v a folder source
  pub is_fault : (sources_of lang v).IsFaultOf source fault

pub record HasLater (lang : Language) (v : Verb) (a : Asked) (folder : Loading) : Type 0 where
  pub source : List ℕ
  pub has : HasSource v a folder source
  pub is_later : (sources_of lang v).IsLater source

pub record HasProgram (lang : Language) (v : Verb) (a : Asked) (folder : Loading) (program : (sources_of lang v).Program) : Type 0 where
  pub source : List ℕ
  pub has : HasSource v a folder source
  pub typed : (sources_of lang v).IsAccepted source program

pub record HasBadImage (v : Verb) (a : Asked) (folder : Loading) (bad : BadImage) : Type 0 where
  pub bytes : List ℕ
  pub has : HasBytes v a folder bytes
  pub is_bad : IsBadImage bytes bad

pub record HasImage (v : Verb) (a : Asked) (folder : Loading) (image : Image) : Type 0 where
  pub bytes : List ℕ
  pub has : HasBytes v a folder bytes
  pub spelled : Spells bytes image
  pub sound : IsVerified image

-- a run on the input ends so
pub record RunEnds (a : Asked) (image : Image) (r : Reading) (e : Ending) : Type 0 where
  pub input : List ℕ
  pub input_end : InputEnd
  pub is_input : IsInput r input input_end
  pub ends : e ≡ (final_of a image input input_end).ending

-- the ending that the status tells is that of the definition's run
abbrev pub HasEnding : Language → Verb → Asked → Devices → Ending → Type 0
HasEnding lang verb.Run a d e = (program : lang.compiled.Program) × HasProgram lang verb.Run a d.folder program × (e ≡ (final_of a (lang.code_of program) [] closed).ending)
HasEnding lang verb.Exec a d e = (image : Image) × HasImage verb.Exec a d.folder image × RunEnds a image d.input e
HasEnding lang _ a d e = ⊥

-- the command did its work
abbrev pub HasDone : Language → Verb → Asked → Loading → Type 0
HasDone lang verb.Check a folder = (program : lang.checked.Program) × HasProgram lang verb.Check a folder program
HasDone lang verb.Migrate a folder = (image : Image) × HasImage verb.Migrate a folder image
HasDone lang _ a folder = ⊥

-- the source or the image is one that can't be done yet, or the command is
abbrev pub CannotYet : Language → Verb → Asked → Loading → Type 0
CannotYet lang verb.Run a folder = HasLater lang verb.Run a folder
CannotYet lang verb.Exec a folder = ⊥
CannotYet lang verb.Migrate a folder = ⊥
CannotYet lang verb.Compile a folder = ⊤
CannotYet lang verb.Check a folder = HasLater lang verb.Check a folder
CannotYet lang verb.Audit a folder = ⊤
CannotYet lang verb.Sample a folder = ⊤

-- ---- the table, for a job

abbrev pub Cause : Language → Answer → Verb → Asked → Devices → Type 0
Cause lang Done v a d = HasDone lang v a d.folder
Cause lang Usage v a d = ⊥
Cause lang FileFault v a d = (most : ℕ) × Loads v most × IsUnavailable d.folder a.job.argument
Cause lang FileLong v a d = (most : ℕ) × Loads v most × IsLong d.folder a.job.argument most
Cause lang (Refused fault) v a d = HasFault lang v a d.folder fault
Cause lang (Bad bad) v a d = HasBadImage v a d.folder bad
Cause lang (Ran e) v a d = HasEnding lang v a d e
Cause lang NotYet v a d = CannotYet lang v a d.folder

-- and for words that ask for none
abbrev pub NoJobCause : Answer → Type 0
NoJobCause Usage = ⊤
NoJobCause _ = ⊥

abbrev pub CauseOf : Language → Answer → Option Job → Handed → Devices → Type 0
CauseOf lang answer None h d = NoJobCause answer
CauseOf lang answer (Some job) h d = Cause lang answer job.verb (asked job h.makers h.watchers) d
