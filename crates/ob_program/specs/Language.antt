-- Which language the program has so far: it compiles sources of the first form, and checks all.
use Rattle.std.specs.Prelude.{◌≡◌, ℕ, ◌<◌, ◌≤◌, ◌++◌, List, [], length, map}
use Rattle.ob_base.specs.Devices.{IsWritten}
use Rattle.ob_model.specs.Endings as endings
use Rattle.ob_model.specs.declared.endings.Ending.TheVariants.{Ended}
use Rattle.ob_typed.specs.TypedTree.{TypedProgram}
use Rattle.ob_compile.specs.Accepted.{Accepted, HasSourceFault}
use Rattle.ob_first.specs.FirstCode.{code_of}
use Rattle.ob_first.specs.FirstForm.{FirstForm, printed, sum_value}
use Rattle.ob_first.specs.Sources.{IsFaultOf, IsOfForm, IsOfNoForm}
use Rattle.ob_settings.specs.declared.job.Job.{Job}
use Rattle.ob_settings.specs.declared.verb.Verb.TheVariants as verb
use Rattle.ob_commands.specs.Answers.{report_of}
use Rattle.ob_commands.specs.Laws.{GivesWay, HasText}
use Rattle.ob_commands.specs.Parts.{Language, Sources}
use Rattle.ob_commands.specs.Top.{Answers, Devices, Handed}
use Rattle.std.specs.Prelude.{◌⊎◌}

abbrev pub first_forms : Sources
first_forms = record { Program = FirstForm; IsFaultOf = IsFaultOf; IsLater = IsOfNoForm; IsAccepted = IsOfForm }

-- each source is accepted or has a fault, so that none is left for later
abbrev pub whole_sources : Sources
whole_sources = record { Program = TypedProgram; IsFaultOf = HasSourceFault; IsLater = λ text. ⊥; IsAccepted = Accepted }

abbrev pub language : Language
language = record { compiled = first_forms; code_of = code_of; checked = whole_sources }

-- all that the program says was written, and the status is that of its result
pub record IsDoneAsMeant (h : Handed) (d : Devices) (status : ℕ) (job : Job) (form : FirstForm) : Type 0 where
  pub status_is : status ≡ endings.status_of (Ended (sum_value form.result))
  pub out : IsWritten d.out (printed form)
  pub err : IsWritten d.err (report_of job.report h.watchers)

-- a source of the first form, run for more steps than it has prints, writes what it prints and ends with its result, unless a write
-- failed or memory was wanting; a source has fewer than 1,048,576 prints
pub record FirstFormsAreWritten : Type 0 where
  pub written :
      (h : Handed) (d : Devices) (status n : ℕ) (job : Job) (text : List ℕ) (form : FirstForm) → Answers language h d status n → HasText h d verb.Run job text →
      IsOfForm text form → length form.prints < job.steps → IsDoneAsMeant h d status job form ⊎ GivesWay status
  pub few : (text : List ℕ) (form : FirstForm) → length text ≤ 1048576 → IsOfForm text form → length form.prints < 1048576
