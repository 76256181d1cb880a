-- A job of `check` ends with 0 only where its source is accepted.
use Rattle.std.proofs.Common.{◌≡◌, ℕ, ◌<◌, Bool, List, length, sym, ap, ◌∙◌, subst, arith}
use Rattle.ob_base.specs.Devices.{IsUnread, IsWritten}
use Rattle.ob_settings.specs.declared.job.Job.{Job}
use Rattle.ob_settings.specs.declared.verb.Verb.TheVariants as verb
use Rattle.ob_settings.specs.Jobs.{OneJob}
use Rattle.ob_commands.specs.declared.answer.Answer.{Answer}
use Rattle.ob_commands.specs.declared.answer.Answer.TheVariants.{FileFault, FileLong, Refused, NotYet}
use Rattle.ob_commands.specs.Answers.{Outcome, status_of, wrote}
use Rattle.ob_commands.specs.Parts as parts
use Rattle.ob_commands.specs.Parts.{Asked, Language, IsLoaded, asked, most_source_bytes, OfFile, unavailable, long, OfSource, faulty, later, accepted}
use Rattle.ob_commands.specs.Check.{Check, ok_line}
use Rattle.ob_commands.specs.Top.{Delivers, Devices, ComesOf, does, helpless, whole, out_failed, err_failed, lost, starved}
use Rattle.ob_commands.specs.Laws.{CheckOnly, IsChecked, IsExact, IsOwn, IsRefusal, done, ended}
use Rattle.ob_commands.proofs.Determined.{same_job, with_verb}
use Rattle.ob_commands.proofs.Numbers.{is_own}

not_own : (x y : Answer) → x ≡ y → IsRefusal y → IsOwn x → ⊥
not_own x y is refusal (done all) = subst IsRefusal (sym is ∙ all) refusal
not_own x y is refusal (ended m so) = subst IsRefusal (sym is ∙ so) refusal

module _ (lang : Language) (d : Devices) (a : Asked) (s n : ℕ) (o : Outcome) (own : IsOwn o.answer) (out : IsWritten d.out o.out) (err : IsWritten d.err o.err) (status_is : s ≡ status_of o.answer) (count : n ≡ o.instructions) where
  of_source : (text : List ℕ) → IsLoaded d.folder a.job.argument most_source_bytes text → OfSource lang.checked a.job.argument text d.input o (λ program. IsUnread d.input × (o ≡ wrote ok_line)) → IsChecked lang d a.job s n
  of_source text from (faulty fault cause unread is) = absurd (not_own o.answer (Refused fault) (ap (λ x. x.answer) is) tt own)
  of_source text from (later cause unread is) = absurd (not_own o.answer NotYet (ap (λ x. x.answer) is) tt own)
  of_source text from (accepted program typed (unread, is)) =
      record {
        text = text;
        from = from;
        program = program;
        accepted = typed;
        status_is = status_is ∙ ap (λ x. status_of x.answer) is;
        out = subst (λ x. IsWritten d.out x.out) is out;
        err = subst (λ x. IsWritten d.err x.err) is err;
        count = count ∙ ap (λ x. x.instructions) is;
      }

  of_file : OfFile a most_source_bytes d.folder d.input o (λ text. Check lang.checked a text d.input o) → IsChecked lang d a.job s n
  of_file (unavailable cause unread is) = absurd (not_own o.answer FileFault (ap (λ x. x.answer) is) tt own)
  of_file (long cause unread is) = absurd (not_own o.answer FileLong (ap (λ x. x.answer) is) tt own)
  of_file (parts.loaded text from goes_on) = of_source text from goes_on

module _ (lang : Language) (one : OneJob) (compiled : IsExact lang.compiled) (checked : IsExact lang.checked) where
  by : (d : Devices) (report : Bool) (a : Asked) (s n : ℕ) (o : Outcome) → s < 128 → Delivers report o d.out d.err s n → ComesOf lang verb.Check a d.folder d.input o → IsChecked lang d a.job s n
  by d report a s n o low (whole w e is count) comes = of_file lang d a s n o (is_own o.answer (subst (λ x. x < 128) is low)) w e is count comes
  by d report a s n o low (out_failed w e is count) comes = absurd (omega (arith, low, is))
  by d report a s n o low (err_failed w e is count) comes = absurd (omega (arith, low, is))
  by d report a s n o low (lost keeps w e is count) comes = absurd (omega (arith, low, is))
  by d report a s n o low (starved t w e is count) comes = absurd (omega (arith, low, is))

  pub check_only : CheckOnly lang
  check_only h d s n job (helpless it) asks is low = let other = it.status_is in absurd (omega (arith, low, other))
  check_only h d s n job (does it) asks is low =
      by d _ (asked job h.makers h.watchers) s n it.outcome low it.delivers
      (with_verb lang one compiled checked verb.Check job.verb (asked job h.makers h.watchers) d.folder d.input it.outcome is (same_job lang one compiled checked h d it.outcome it.job job it.asks asks it.comes))
