-- Each outcome of a command has the cause of its answer.
use Rattle.std.proofs.Common.{◌≡◌, ℕ, List, refl, sym, subst}
use Rattle.std.specs.Prelude.{Some, None}
use Rattle.ob_code.specs.declared.image.Image.{Image}
use Rattle.ob_code.specs.Rules.{IsVerified}
use Rattle.ob_image.specs.Faults.{Spells}
use Rattle.ob_settings.specs.declared.verb.Verb.{Verb}
use Rattle.ob_settings.specs.declared.verb.Verb.TheVariants as verb
use Rattle.ob_commands.specs.Answers.{Outcome}
use Rattle.ob_commands.specs.Parts as parts
use Rattle.ob_commands.specs.Parts.{Asked, Language, asked, OfFile, unavailable, long, OfSource, faulty, later, accepted, OfImage, bad, verified, IsLoaded}
use Rattle.ob_commands.specs.Top.{Devices, ComesOf}
use Rattle.ob_commands.specs.Causes.{Cause, CannotYet, NoJobCause, Loads, HasLater, HasSource, HasBytes, sources_of}
use Rattle.ob_commands.specs.Laws.{AnswersHaveCauses}

module _ (lang : Language) where
  -- an outcome's cause is that of an equal one
  by_equal : (v : Verb) (a : Asked) (d : Devices) (o o' : Outcome) → o ≡ o' → Cause lang o'.answer v a d → Cause lang o.answer v a d
  by_equal v a d o o' e c = subst (λ x. Cause lang x.answer v a d) (sym e) c

  of_file : (v : Verb) (a : Asked) (most : ℕ) (d : Devices) (o : Outcome) (Then : List ℕ → Type 0) → Loads v most → OfFile a most d.folder d.input o Then →
      ((bytes : List ℕ) → IsLoaded d.folder a.job.argument most bytes → Then bytes → Cause lang o.answer v a d) → Cause lang o.answer v a d
  of_file v a most d o Then loads (unavailable cause not_read is) next = by_equal v a d o _ is (most, loads, cause)
  of_file v a most d o Then loads (long cause not_read is) next = by_equal v a d o _ is (most, loads, cause)
  of_file v a most d o Then loads (parts.loaded bytes from goes_on) next = next bytes from goes_on

  of_source : (v : Verb) (a : Asked) (d : Devices) (o : Outcome) (source : List ℕ) (Then : (sources_of lang v).Program → Type 0) → HasSource v a d.folder source →
      (HasLater lang v a d.folder → CannotYet lang v a d.folder) → OfSource (sources_of lang v) a.job.argument source d.input o Then →
      ((program : (sources_of lang v).Program) → (sources_of lang v).IsAccepted source program → Then program → Cause lang o.answer v a d) → Cause lang o.answer v a d
  of_source v a d o source Then has cannot (faulty fault cause not_read is) next = by_equal v a d o _ is (record { source = source; has = has; is_fault = cause })
  of_source v a d o source Then has cannot (later cause not_read is) next = by_equal v a d o _ is (cannot (record { source = source; has = has; is_later = cause }))
  of_source v a d o source Then has cannot (accepted program typed goes_on) next = next program typed goes_on

  of_image : (v : Verb) (a : Asked) (d : Devices) (o : Outcome) (bytes : List ℕ) (Then : Image → Type 0) → HasBytes v a d.folder bytes → OfImage a.job.argument bytes d.input o Then →
      ((image : Image) → Spells bytes image → IsVerified image → Then image → Cause lang o.answer v a d) → Cause lang o.answer v a d
  of_image v a d o bytes Then has (bad fault cause not_read is) next = by_equal v a d o _ is (record { bytes = bytes; has = has; is_bad = cause })
  of_image v a d o bytes Then has (verified image spelled sound goes_on) next = next image spelled sound goes_on

  comes_of : (v : Verb) (a : Asked) (d : Devices) (o : Outcome) → ComesOf lang v a d.folder d.input o → Cause lang o.answer v a d
  comes_of verb.Run a d o c =
      of_file verb.Run a _ d o _ refl c (λ source from goes_on. of_source verb.Run a d o source _ from (λ it. it) goes_on (λ program typed then.
      by_equal verb.Run a d o _ then.1 (program, record { source = source; has = from; typed = typed }, refl)))
  comes_of verb.Check a d o c =
      of_file verb.Check a _ d o _ refl c (λ source from goes_on. of_source verb.Check a d o source _ from (λ it. it) goes_on (λ program typed then.
      by_equal verb.Check a d o _ then.1 (program, record { source = source; has = from; typed = typed })))
  comes_of verb.Exec a d o c =
      of_file verb.Exec a _ d o _ refl c (λ bytes from goes_on. of_image verb.Exec a d o bytes _ from goes_on (λ image spelled sound then.
      by_equal verb.Exec a d o _ then.is
      (image, record { bytes = bytes; has = from; spelled = spelled; sound = sound }, record { input = then.input; input_end = then.input_end; is_input = then.is_input; ends = refl })))
  comes_of verb.Migrate a d o c =
      of_file verb.Migrate a _ d o _ refl c (λ bytes from goes_on. of_image verb.Migrate a d o bytes _ from goes_on (λ image spelled sound then.
      by_equal verb.Migrate a d o _ then.is (image, record { bytes = bytes; has = from; spelled = spelled; sound = sound })))
  comes_of verb.Compile a d o c = by_equal verb.Compile a d o _ c.is tt
  comes_of verb.Audit a d o c = by_equal verb.Audit a d o _ c.is tt
  comes_of verb.Sample a d o c = by_equal verb.Sample a d o _ c.is tt

  pub caused : AnswersHaveCauses lang
  caused None h d o c = subst (λ x. NoJobCause x.answer) (sym c.is) tt
  caused (Some job) h d o c = comes_of job.verb (asked job h.makers h.watchers) d o c
