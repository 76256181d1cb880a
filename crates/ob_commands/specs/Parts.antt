-- What commands have in common: a file that is loaded, a source that is compiled, an image that is verified, a run on the input.
-- Each part says once what it may come to by itself, and leaves the rest to the command, as a relation on what it has got.
use Rattle.std.specs.List.{list_any}
use Rattle.std.specs.Prelude.{◌≡◌, ℕ, Bool, true, false, ◌&&◌, ◌==◌, ◌≤◌, ◌⊎◌, List, [], ◌++◌, length, map, slice_index_or, if◌then◌else◌}
use Rattle.ob_base.specs.Devices.{Loading, Reading, IsSound, IsUnavailable, IsToldAs, IsToldLong, IsUnread}
use Rattle.ob_model.specs.declared.settings.Profile.{Profile}
use Rattle.ob_model.specs.declared.settings.RunSettings.{RunSettings}
use Rattle.ob_model.specs.Endings.{InputEnd}
use Rattle.ob_model.specs.declared.strays.Act.{Act}
use Rattle.ob_model.specs.declared.strays.Act.TheVariants as act
use Rattle.ob_model.specs.declared.strays.StrayEvent.{StrayEvent}
use Rattle.ob_model.specs.Settings.{keeps_strays}
use Rattle.ob_watch.specs.Watching.{Watch, after_events}
use Rattle.ob_code.specs.declared.faults.BadImage.{BadImage}
use Rattle.ob_code.specs.declared.faults.Part.TheVariants as part
use Rattle.ob_code.specs.declared.image.Image.{Image}
use Rattle.ob_code.specs.FirstFault.{IsFirstFault}
use Rattle.ob_code.specs.Rules.{IsVerified}
use Rattle.ob_code.specs.Start.{flat_final}
use Rattle.ob_code.specs.State.{Final}
use Rattle.ob_image.specs.Faults.{IsFirstWrong, Spells}
use Rattle.ob_machine.specs.Devices.{IsInput}
use Rattle.ob_tree.specs.declared.faults.SourceFault.{SourceFault}
use Rattle.ob_report.specs.Lines.{ending_line}
use Rattle.ob_settings.specs.declared.job.Job.{Job}
use Rattle.ob_commands.specs.declared.answer.Answer.TheVariants.{FileFault, FileLong, Refused, Bad, Ran, NotYet}
use Rattle.ob_commands.specs.Answers.{Outcome, told_why, report_of}

-- what is known of sources: the fault of one, that nothing can be done with one yet, and that one is a program's
pub record Sources : Type 1 where
  pub Program : Type 0
  pub IsFaultOf : List ℕ → SourceFault → Type 0
  pub IsLater : List ℕ → Type 0
  pub IsAccepted : List ℕ → Program → Type 0

-- what a compiler promises: the sources that it compiles, the image of a program, and the sources that it checks
pub record Language : Type 1 where
  pub compiled : Sources
  pub code_of : compiled.Program → Image
  pub checked : Sources

-- a maker of manufactured values: its cycle and its place there
pub record Supply : Type 0 where
  pub cycle : List ℕ
  pub place : ℕ

abbrev pub no_supply : Supply
no_supply = record { cycle = []; place = 0 }

-- what a command has: its job, the maker that the job names, and the watchers as they were handed in
pub record Asked : Type 0 where
  pub job : Job
  pub supply : Supply
  pub watchers : List Watch

abbrev pub asked : Job → List Supply → List Watch → Asked
asked job makers watchers = record { job = job; supply = slice_index_or makers job.maker no_supply; watchers = watchers }

-- ---- files

-- the file was loaded, and these are its bytes
pub record IsLoaded (l : Loading) (name : List ℕ) (most : ℕ) (bytes : List ℕ) : Type 0 where
  pub sound : IsSound l
  pub told : IsToldAs l.files name bytes
  pub short : length bytes ≤ most

-- the file has more than so many bytes
pub record IsLong (l : Loading) (name : List ℕ) (most : ℕ) : Type 0 where
  pub sound : IsSound l
  pub told : IsToldLong l.files name most

pub data OfFile (a : Asked) (most : ℕ) (folder : Loading) (input : Reading) (o : Outcome) (Then : List ℕ → Type 0) : Type 0 where
  unavailable : (cause : IsUnavailable folder a.job.argument) (unread : IsUnread input) (is : o ≡ told_why a.job.argument FileFault) → OfFile a most folder input o Then
  long : (cause : IsLong folder a.job.argument most) (unread : IsUnread input) (is : o ≡ told_why a.job.argument FileLong) → OfFile a most folder input o Then
  loaded : (bytes : List ℕ) (from : IsLoaded folder a.job.argument most bytes) (goes_on : Then bytes) → OfFile a most folder input o Then

-- the most bytes of a source, a mebibyte, and of an image, 64 of them
abbrev pub most_source_bytes : ℕ
most_source_bytes = 1048576

abbrev pub most_image_bytes : ℕ
most_image_bytes = 67108864

-- ---- sources

pub data OfSource (s : Sources) (name source : List ℕ) (input : Reading) (o : Outcome) (Then : s.Program → Type 0) : Type 0 where
  faulty : (fault : SourceFault) (cause : s.IsFaultOf source fault) (unread : IsUnread input) (is : o ≡ told_why name (Refused fault)) → OfSource s name source input o Then
  later : (cause : s.IsLater source) (unread : IsUnread input) (is : o ≡ told_why name NotYet) → OfSource s name source input o Then
  accepted : (program : s.Program) (typed : s.IsAccepted source program) (goes_on : Then program) → OfSource s name source input o Then

-- ---- images

-- the bytes are no image's, or those of an image that breaks a rule
abbrev pub IsBadImage : List ℕ → BadImage → Type 0
IsBadImage bytes bad = ((bad.part ≡ part.Bytes) × IsFirstWrong bytes bad.at) ⊎ ((image : Image) × (Spells bytes image × IsFirstFault image bad))

pub data OfImage (name bytes : List ℕ) (input : Reading) (o : Outcome) (Then : Image → Type 0) : Type 0 where
  bad : (fault : BadImage) (cause : IsBadImage bytes fault) (unread : IsUnread input) (is : o ≡ told_why name (Bad fault)) → OfImage name bytes input o Then
  verified : (image : Image) (spelled : Spells bytes image) (sound : IsVerified image) (goes_on : Then image) → OfImage name bytes input o Then

-- ---- runs

-- a job's settings, with the image's profile where the job names none
abbrev pub settings_for : Job → Profile → RunSettings
settings_for job profile = if job.profile == 0 then record job.settings { profile = profile } else job.settings

-- the definition's run of an image for a job
abbrev pub final_of : Asked → Image → (input : List ℕ) → InputEnd → Final
final_of a image input input_end =
    flat_final image (settings_for a.job image.profile) a.supply.cycle a.supply.place input input_end a.job.steps

-- a store is among the stray accesses, and the mode keeps it
abbrev pub is_store_act : Act → Bool
is_store_act act.Load = false
is_store_act act.Store = true
is_store_act act.Free = false

abbrev pub is_store : StrayEvent → Bool
is_store e = is_store_act e.act

abbrev pub keeps_stores : Asked → Final → Bool
keeps_stores a f = keeps_strays a.job.settings.mode && list_any is_store f.state.events

-- what a run comes to: its output; the line of its ending and, where it was asked for, the report of the watchers
abbrev pub run_outcome : Asked → Final → Outcome
run_outcome a f =
    record {
      answer = Ran f.ending;
      out = f.state.output;
      err = ending_line f.ending ++ report_of a.job.report (map (after_events f.state.events) a.watchers);
      instructions = f.state.instructions;
      keeps = keeps_stores a f;
    }

-- the image is run on these bytes
abbrev pub RunsWith : Asked → Image → (input : List ℕ) → InputEnd → Outcome → Type 0
RunsWith a image input input_end o = o ≡ run_outcome a (final_of a image input input_end)

-- the image is run on what a source gives
pub record RunsOn (a : Asked) (image : Image) (r : Reading) (o : Outcome) : Type 0 where
  pub input : List ℕ
  pub input_end : InputEnd
  pub is_input : IsInput r input input_end
  pub is : RunsWith a image input input_end o
