-- Sources come to one outcome each, as those of the first form and as those that are checked, and what a source of the first form
-- writes is what it says.
use Rattle.std.proofs.Common.{◌≡◌, ℕ, ◌<◌, ◌≤◌, ◌⊎◌, Bool, true, false, cond, List, [], ◌∷◌, ◌++◌, length, refl, sym, ap, ◌∙◌, subst, inl, inr}
use Rattle.std.specs.Prelude.{◌==◌, map, Ok, Err}
use Rattle.ob_base.specs.Devices.{IsWritten}
use Rattle.ob_model.specs.Endings as endings
use Rattle.ob_model.specs.Endings.{closed}
use Rattle.ob_model.specs.Settings.{IsFit}
use Rattle.ob_model.specs.declared.endings.Ending.TheVariants.{Ended}
use Rattle.ob_model.specs.declared.settings.Profile.{Profile}
use Rattle.ob_model.specs.declared.settings.RunSettings.{RunSettings}
use Rattle.ob_code.specs.State.{Final}
use Rattle.ob_report.specs.Lines.{ending_line}
use Rattle.ob_tree.specs.declared.faults.SourceFault.{SourceFault}
use Rattle.ob_tree.specs.declared.faults.SourceFault.TheVariants as source
use Rattle.ob_typed.specs.TypedTree.{TypedProgram}
use Rattle.ob_sources.specs.Stages.{Outcome as Typed}
use Rattle.ob_compile.specs.Accepted.{HasSourceFault, ComesTo as SourceComesTo}
use Rattle.ob_first.specs.FirstCode.{code_of}
use Rattle.ob_first.specs.FirstForm.{FirstForm, printed, sum_value}
use Rattle.ob_first.specs.Sources as sources
use Rattle.ob_first.specs.Sources.{FirstFormsRun, IsOfForm, PrintsAreFew, ComesTo as TextComesTo, Outcome as TextOutcome}
use Rattle.ob_settings.specs.declared.job.Job.{Job}
use Rattle.ob_settings.specs.declared.verb.Verb.TheVariants as verb
use Rattle.ob_settings.specs.Jobs.{JobsAreFit, OneJob}
use Rattle.ob_commands.specs.Answers.{report_of}
use Rattle.ob_model.specs.declared.strays.StrayEvent.{StrayEvent}
use Rattle.ob_watch.specs.Watching.{Watch, after_events}
use Rattle.ob_commands.specs.Parts.{Asked, asked, final_of, run_outcome, settings_for}
use Rattle.ob_commands.specs.Top.{Answers, Devices, Handed}
use Rattle.ob_commands.specs.Laws.{ComesTo, GivesWay, HasText, IsExact}
use Rattle.ob_commands.proofs.Determined.{run_when}
use Rattle.ob_program.specs.Language.{FirstFormsAreWritten, IsDoneAsMeant, first_forms, language, whole_sources}

abbrev OneOutcome : Type 0
OneOutcome = (text : List ℕ) (a b : TextOutcome) → TextComesTo text a → TextComesTo text b → a ≡ b

pub exact : OneOutcome → IsExact first_forms
exact one =
    record {
      one_fault = λ text f g p q. let e : TextOutcome.Faulty f ≡ TextOutcome.Faulty g = one text (TextOutcome.Faulty f) (TextOutcome.Faulty g) p q in cc;
      one_program = λ text f g p q. let e : TextOutcome.First f ≡ TextOutcome.First g = one text (TextOutcome.First f) (TextOutcome.First g) p q in cc;
      fault_or_later = λ text f p q. let e : TextOutcome.Faulty f ≡ TextOutcome.Later = one text (TextOutcome.Faulty f) TextOutcome.Later p q in cc;
      fault_or_program = λ text f g p q. let e : TextOutcome.Faulty f ≡ TextOutcome.First g = one text (TextOutcome.Faulty f) (TextOutcome.First g) p q in cc;
      later_or_program = λ text g p q. let e : TextOutcome.Later ≡ TextOutcome.First g = one text TextOutcome.Later (TextOutcome.First g) p q in cc;
      not_memory = λ text it. it;
    }

abbrev OneTypedTree : Type 0
OneTypedTree = (text : List ℕ) (a b : Typed TypedProgram) → SourceComesTo text a → SourceComesTo text b → a ≡ b

abbrev NotMemory : Type 0
NotMemory = (text : List ℕ) → HasSourceFault text source.NoMemory → ⊥

pub whole : OneTypedTree → NotMemory → IsExact whole_sources
whole one memory =
    record {
      one_fault = λ text f g p q. let e : ◌≡◌ {A = Typed TypedProgram} (Err f) (Err g) = one text (Err f) (Err g) p q in cc;
      one_program = λ text t u p q. let e : ◌≡◌ {A = Typed TypedProgram} (Ok t) (Ok u) = one text (Ok t) (Ok u) p q in cc;
      fault_or_later = λ text f p q. q;
      fault_or_program = λ text f t p q. let e : ◌≡◌ {A = Typed TypedProgram} (Err f) (Ok t) = one text (Err f) (Ok t) p q in cc;
      later_or_program = λ text t p q. p;
      not_memory = memory;
    }

-- ---- what is written

-- a watcher that is told nothing stays as it was
stay : (ws : List Watch) → map (after_events []) ws ≡ ws
stay [] = refl
stay (w ∷ ws) = ap (λ rest. w ∷ rest) (stay ws)

told_nothing : (events : List StrayEvent) (ws : List Watch) → events ≡ [] → map (after_events events) ws ≡ ws
told_nothing events ws is = ap (λ e. map (after_events e) ws) is ∙ stay ws

fit_by : (b : Bool) (s t : RunSettings) → IsFit s → IsFit t → IsFit (cond b s t)
fit_by true s t p q = p
fit_by false s t p q = q

fit_for : (job : Job) (profile : Profile) → IsFit job.settings → IsFit (settings_for job profile)
fit_for job profile fit =
    fit_by (job.profile == 0) (record job.settings { profile = profile }) job.settings
    (record { least_store = fit.least_store; most_store = fit.most_store; away = fit.away; heap = fit.heap }) fit

pub written : OneJob → JobsAreFit → OneOutcome → OneTypedTree → NotMemory → FirstFormsRun → PrintsAreFew → FirstFormsAreWritten
written one_job fit one one_tree memory runs few =
    record {
      written = λ h d s n job text form all has is enough. by h d s n job text form has is enough (run_when language one_job (exact one) (whole one_tree memory) h d s n job text form all has is);
      few = few;
    }
  where
    by : (h : Handed) (d : Devices) (s n : ℕ) (job : Job) (text : List ℕ) (form : FirstForm) → HasText h d verb.Run job text → IsOfForm text form → length form.prints < job.steps →
        (let a = asked job h.makers h.watchers in ComesTo d (run_outcome a (final_of a (code_of form) [] closed)) s n) → IsDoneAsMeant h d s job form ⊎ GivesWay s
    by h d s n job text form has is enough (inr way) = inr way.0
    by h d s n job text form has is enough (inl told) =
        let a : Asked = asked job h.makers h.watchers in
        let settings = settings_for job (code_of form).profile in
        let f : Final = final_of a (code_of form) [] closed in
        let means = runs text form has.short is settings a.supply.cycle a.supply.place [] closed job.steps (fit_for job (code_of form).profile (fit h.words job has.asks.asked).0) enough in
        let err_is : ending_line f.ending ++ report_of job.report (map (after_events f.state.events) h.watchers) ≡ report_of job.report h.watchers =
        ap (λ e. ending_line e ++ report_of job.report (map (after_events f.state.events) h.watchers)) means.ending ∙ ap (report_of job.report) (told_nothing f.state.events h.watchers means.quiet) in
        inl (record {
          status_is = told.status_is ∙ ap endings.status_of means.ending;
          out = subst (IsWritten d.out) means.output told.out;
          err = subst (IsWritten d.err) err_is told.err;
        })
