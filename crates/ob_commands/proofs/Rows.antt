-- The rows of the table on `top`, for each language.
use Rattle.std.proofs.Common.{◌≡◌, ◌≢◌, ℕ, Bool, true, false, ◌<◌, ◌≤◌, ◌⊎◌, List, [], length, take, refl, sym, ap, ◌∙◌, subst, arith, inl, inr}
use Rattle.std.proofs.Math.Seq.{take-length}
use Rattle.std.specs.Prelude.{Option, Some, None}
use Rattle.std.specs.Io.KnownBytes.{append_known}
use Rattle.ob_base.specs.Faults.{Rose}
use Rattle.ob_base.specs.Sink.{tally_known}
use Rattle.ob_base.specs.Devices.{Loading, Reading, Writing, IsSound, IsUnread, IsUnwritten, IsWritten}
use Rattle.ob_tree.specs.declared.faults.SourceFault.{SourceFault}
use Rattle.ob_model.specs.declared.endings.Ending.{Ending}
use Rattle.ob_model.specs.declared.endings.Ending.TheVariants as ending
use Rattle.ob_model.specs.Endings as endings
use Rattle.ob_model.specs.Endings.{InputEnd, closed, failed}
use Rattle.ob_model.specs.Laws.{OwnStatusIsBelow}
use Rattle.ob_code.specs.Laws.{MayEnd, RunsEndSo}
use Rattle.ob_code.specs.declared.image.Image.{Image}
use Rattle.ob_machine.specs.Devices.{IsInput}
use Rattle.ob_settings.specs.declared.job.Job.{Job}
use Rattle.ob_settings.specs.declared.verb.Verb.{Verb}
use Rattle.ob_settings.specs.declared.verb.Verb.TheVariants as verb
use Rattle.ob_settings.specs.Jobs.{IsJobFor, IsUsageFor}
use Rattle.ob_commands.specs.declared.answer.Answer.{Answer}
use Rattle.ob_commands.specs.declared.answer.Answer.TheVariants.{Usage, FileFault, FileLong, Refused, Bad, Ran, NotYet}
use Rattle.ob_commands.specs.Answers.{Outcome, TakesMemory, status_of, told_why}
use Rattle.ob_commands.specs.Parts as parts
use Rattle.ob_commands.specs.Parts.{Asked, Language, Sources, asked, final_of, settings_for, OfFile, unavailable, long, OfSource, faulty, later, accepted, OfImage, bad, verified}
use Rattle.ob_commands.specs.Top.{Answers, Ask, Comes, ComesOf, Delivers, Devices, Does, Handed, does, helpless, wants_report, whole, out_failed, err_failed, lost, starved}
use Rattle.ob_commands.specs.Causes.{CauseOf, HasEnding}
use Rattle.ob_commands.specs.Laws.{AllIsTold, CannotLoad, ComesTo, IsRefusal, LaterTold, NoOther, NotYetOnly, OwnOnly, RefusalsAreTold, FaultOnly, FaultTold, FaultsAreTold, FileFaultOnly, FileLongOnly, GivesWay, HasLongFile, InputIsLeft, IsTold, BadOnly, BadTold, EndingOnly, RanTo, ReadFaultOnly, SinksTakePrefixes, Takes, UsageOnly, UsageTakesNoMemory, UsageWhen, WriteFaultOnly}
use Rattle.ob_commands.proofs.Caused.{caused}
use Rattle.ob_commands.proofs.Coming.{nothing_due}
use Rattle.ob_commands.proofs.Numbers.{is_not_yet, is_own, statuses_small, is_bad, is_file_fault, is_file_long, is_ran, is_read_fault, is_refused, is_usage, is_write_fault}

-- ---- prefixes

pub all_taken : (w : Writing) (due : List ℕ) → IsWritten w due → Takes w due
all_taken w due it = (length due, (it.took ∙ ap (append_known w.taken_before) (sym (take-length due)), it.tallied ∙ ap (tally_known w.tally_before) (sym (take-length due))))

pub none_taken : (w : Writing) (due : List ℕ) → IsUnwritten w → Takes w due
none_taken w due it = let n = nothing_due w it in (0, (n.took, n.tallied))

prefixes_of : (report : Bool) (o : Outcome) (out err : Writing) (s n : ℕ) → Delivers report o out err s n → Takes out o.out × Takes err o.err
prefixes_of report o out err s n (whole w e is c) = (all_taken out o.out w, all_taken err o.err e)
prefixes_of report o out err s n (out_failed w e is c) = (w.took, none_taken err o.err e)
prefixes_of report o out err s n (err_failed w e is c) = (all_taken out o.out w, e.took)
prefixes_of report o out err s n (lost keeps w e is c) = (w.took, none_taken err o.err e)
prefixes_of report o out err s n (starved t w e is c) = (all_taken out o.out w, none_taken err o.err e)

-- ---- delivery

pub delivered : (d : Devices) (report : Bool) (o due : Outcome) (s n : ℕ) → o ≡ due → Delivers report o d.out d.err s n → ComesTo d due s n
delivered d report o due s n is (whole w e status_is count) =
    inl (record { out = subst (λ x. IsWritten d.out x.out) is w; err = subst (λ x. IsWritten d.err x.err) is e; status_is = status_is ∙ ap (λ x. status_of x.answer) is; count = count ∙ ap (λ x. x.instructions) is })
delivered d report o due s n is (out_failed w e status_is count) =
    inr (inl status_is, subst (λ x. Takes d.out x.out) is w.took, none_taken d.err due.err e)
delivered d report o due s n is (err_failed w e status_is count) =
    inr (inl status_is, subst (λ x. Takes d.out x.out) is (all_taken d.out o.out w), subst (λ x. Takes d.err x.err) is e.took)
delivered d report o due s n is (lost keeps w e status_is count) =
    inr (inr status_is, subst (λ x. Takes d.out x.out) is w.took, none_taken d.err due.err e)
delivered d report o due s n is (starved t w e status_is count) =
    inr (inr status_is, subst (λ x. Takes d.out x.out) is (all_taken d.out o.out w), none_taken d.err due.err e)

pub nothing_came : (d : Devices) (due : Outcome) (s : ℕ) {n : ℕ} → s ≡ 144 → IsUnwritten d.out → IsUnwritten d.err → ComesTo d due s n
nothing_came d due s is out err = inr (inr is, none_taken d.out due.out out, none_taken d.err due.err err)

-- ---- lines

told_alone : (name : List ℕ) (answer : Answer) (o : Outcome) → o ≡ told_why name answer → o ≡ told_why name o.answer
told_alone name answer o is = is ∙ ap (told_why name) (sym (ap (λ x. x.answer) is))

no_run : (o p : Outcome) → o ≡ p → (IsRefusal p.answer → ⊥) → IsRefusal o.answer → ⊥
no_run o p is never refused = never (subst (λ x. IsRefusal x.answer) is refused)

file_alone : (a : Asked) (most : ℕ) (l : Loading) (r : Reading) (o : Outcome) (Then : List ℕ → Type 0) → OfFile a most l r o Then → ((bytes : List ℕ) → Then bytes → o ≡ told_why a.job.argument o.answer) → o ≡ told_why a.job.argument o.answer
file_alone a most l r o Then (unavailable cause unread is) f = told_alone _ FileFault o is
file_alone a most l r o Then (long cause unread is) f = told_alone _ FileLong o is
file_alone a most l r o Then (parts.loaded bytes from goes_on) f = f bytes goes_on

source_alone : (s : Sources) (name text : List ℕ) (r : Reading) (o : Outcome) (Then : s.Program → Type 0) → OfSource s name text r o Then → ((p : s.Program) → Then p → o ≡ told_why name o.answer) → o ≡ told_why name o.answer
source_alone s name text r o Then (faulty fault cause unread is) f = told_alone name (Refused fault) o is
source_alone s name text r o Then (later cause unread is) f = told_alone name NotYet o is
source_alone s name text r o Then (accepted program typed goes_on) f = f program goes_on

image_alone : (name bytes : List ℕ) (r : Reading) (o : Outcome) (Then : Image → Type 0) → OfImage name bytes r o Then → ((i : Image) → Then i → o ≡ told_why name o.answer) → o ≡ told_why name o.answer
image_alone name bytes r o Then (bad fault cause unread is) f = told_alone name (Bad fault) o is
image_alone name bytes r o Then (verified image spelled sound goes_on) f = f image goes_on

job_alone : (lang : Language) (v : Verb) (a : Asked) (l : Loading) (r : Reading) (o : Outcome) → ComesOf lang v a l r o → IsRefusal o.answer → o ≡ told_why a.job.argument o.answer
job_alone lang verb.Run a l r o comes refused =
    file_alone a _ l r o _ comes (λ text then. source_alone lang.compiled _ text r o _ then (λ program it. absurd (no_run o _ it.1 (λ x. x) refused)))
job_alone lang verb.Exec a l r o comes refused =
    file_alone a _ l r o _ comes (λ bytes then. image_alone _ bytes r o _ then (λ image it. absurd (no_run o _ it.is (λ x. x) refused)))
job_alone lang verb.Migrate a l r o comes refused =
    file_alone a _ l r o _ comes (λ bytes then. image_alone _ bytes r o _ then (λ image it. absurd (no_run o _ it.is (λ x. x) refused)))
job_alone lang verb.Compile a l r o comes refused = told_alone _ NotYet o comes.is
job_alone lang verb.Check a l r o comes refused =
    file_alone a _ l r o _ comes (λ text then. source_alone lang.checked _ text r o _ then (λ program it. absurd (no_run o _ it.1 (λ x. x) refused)))
job_alone lang verb.Audit a l r o comes refused = told_alone _ NotYet o comes.is
job_alone lang verb.Sample a l r o comes refused = told_alone _ NotYet o comes.is

pub refusals_are_told : (lang : Language) → RefusalsAreTold lang
refusals_are_told lang None h d o comes refused = told_alone [] Usage o comes.is
refusals_are_told lang (Some job) h d o comes refused = job_alone lang job.verb (asked job h.makers h.watchers) d.folder d.input o comes refused

-- ---- usage

usage_is : (lang : Language) (job : Option Job) (h : Handed) (d : Devices) → Ask h.words (length h.makers) job → CauseOf lang Usage job h d → IsUsageFor (length h.makers) h.words
usage_is lang None h d asks c = asks
usage_is lang (Some job) h d asks c = absurd c

-- the words ask for one thing
none_asked : (lang : Language) (job : Option Job) (h : Handed) (d : Devices) (o : Outcome) → IsUsageFor (length h.makers) h.words → Ask h.words (length h.makers) job → Comes lang job h d o → o ≡ told_why [] Usage
none_asked lang None h d o usage asks comes = comes.is
none_asked lang (Some job) h d o usage asks comes = absurd (usage job asks)

usage_status : (s n : ℕ) (d : Devices) (o : Outcome) (report : Bool) → o ≡ told_why [] Usage → Delivers report o d.out d.err s n → (s ≡ 128) ⊎ (s ≡ 143)
usage_status s n d o report is (whole w e status_is c) = inl (status_is ∙ ap (λ x. status_of x.answer) is)
usage_status s n d o report is (out_failed w e status_is c) = inr status_is
usage_status s n d o report is (err_failed w e status_is c) = inr status_is
usage_status s n d o report is (lost keeps w e status_is c) = let never : false ≡ true = sym (ap (λ x. x.keeps) is) ∙ keeps in absurd (cc)
usage_status s n d o report is (starved t w e status_is c) = absurd (subst (λ x. TakesMemory report x.answer) is t)

-- ---- faults of devices

file_sound : (a : Asked) (most : ℕ) (l : Loading) (r : Reading) (o : Outcome) (Then : List ℕ → Type 0) → OfFile a most l r o Then → (o.answer ≡ FileFault) ⊎ IsSound l
file_sound a most l r o Then (unavailable cause unread is) = inl (ap (λ x. x.answer) is)
file_sound a most l r o Then (long cause unread is) = inr cause.sound
file_sound a most l r o Then (parts.loaded bytes from goes_on) = inr from.sound

job_sound : (lang : Language) (v : Verb) (a : Asked) (l : Loading) (r : Reading) (o : Outcome) → ComesOf lang v a l r o → (o.answer ≡ FileFault) ⊎ IsSound l
job_sound lang verb.Run a l r o comes = file_sound a _ l r o _ comes
job_sound lang verb.Exec a l r o comes = file_sound a _ l r o _ comes
job_sound lang verb.Migrate a l r o comes = file_sound a _ l r o _ comes
job_sound lang verb.Compile a l r o comes = inr comes.idle.sound
job_sound lang verb.Check a l r o comes = file_sound a _ l r o _ comes
job_sound lang verb.Audit a l r o comes = inr comes.idle.sound
job_sound lang verb.Sample a l r o comes = inr comes.idle.sound

folder_sound : (lang : Language) (job : Option Job) (h : Handed) (d : Devices) (o : Outcome) → Comes lang job h d o → (o.answer ≡ FileFault) ⊎ IsSound d.folder
folder_sound lang None h d o comes = inr comes.idle.sound
folder_sound lang (Some job) h d o comes = job_sound lang job.verb _ d.folder d.input o comes

not_faulty : (answer : Answer) (s : ℕ) (l : Loading) → s ≡ status_of answer → s ≢ 129 → (answer ≡ FileFault) ⊎ IsSound l → IsSound l
not_faulty answer s l status_is other (inl fault) = absurd (other (status_is ∙ ap status_of fault))
not_faulty answer s l status_is other (inr sound) = sound

-- ---- the input

source_unread : (s : Sources) (name text : List ℕ) (r : Reading) (o : Outcome) (Then : s.Program → Type 0) → ((p : s.Program) → Then p → IsUnread r) → OfSource s name text r o Then → IsUnread r
source_unread s name text r o Then f (faulty fault cause unread is) = unread
source_unread s name text r o Then f (later cause unread is) = unread
source_unread s name text r o Then f (accepted program typed goes_on) = f program goes_on

image_unread : (name bytes : List ℕ) (r : Reading) (o : Outcome) (Then : Image → Type 0) → ((i : Image) → Then i → IsUnread r) → OfImage name bytes r o Then → IsUnread r
image_unread name bytes r o Then f (bad fault cause unread is) = unread
image_unread name bytes r o Then f (verified image spelled sound goes_on) = f image goes_on

file_unread : (a : Asked) (most : ℕ) (l : Loading) (r : Reading) (o : Outcome) (Then : List ℕ → Type 0) → ((bytes : List ℕ) → Then bytes → IsUnread r) → OfFile a most l r o Then → IsUnread r
file_unread a most l r o Then f (unavailable cause unread is) = unread
file_unread a most l r o Then f (long cause unread is) = unread
file_unread a most l r o Then f (parts.loaded bytes from goes_on) = f bytes goes_on

job_unread : (lang : Language) (v : Verb) (a : Asked) (l : Loading) (r : Reading) (o : Outcome) → v ≢ verb.Exec → ComesOf lang v a l r o → IsUnread r
job_unread lang verb.Run a l r o other comes = file_unread a _ l r o _ (λ text. source_unread lang.compiled _ text r o _ (λ program it. it.0)) comes
job_unread lang verb.Exec a l r o other comes = absurd (other refl)
job_unread lang verb.Migrate a l r o other comes = file_unread a _ l r o _ (λ bytes. image_unread _ bytes r o _ (λ image it. it.unread)) comes
job_unread lang verb.Compile a l r o other comes = comes.idle.unread
job_unread lang verb.Check a l r o other comes = file_unread a _ l r o _ (λ text. source_unread lang.checked _ text r o _ (λ program it. it.0)) comes
job_unread lang verb.Audit a l r o other comes = comes.idle.unread
job_unread lang verb.Sample a l r o other comes = comes.idle.unread

input_unread : (lang : Language) (job : Option Job) (h : Handed) (d : Devices) (o : Outcome) → ((job : Job) → IsJobFor (length h.makers) h.words job → job.verb ≢ verb.Exec) → Ask h.words (length h.makers) job → Comes lang job h d o → IsUnread d.input
input_unread lang None h d o others asks comes = comes.idle.unread
input_unread lang (Some job) h d o others asks comes = job_unread lang job.verb _ d.folder d.input o (others job asks) comes

-- ---- a read that failed

read_failed : (r : Reading) (input : List ℕ) (ends : InputEnd) → IsInput r input ends → MayEnd ends ending.ReadFault → Rose r.faults_before r.faults_now
read_failed r input closed is may = absurd (let e : closed ≡ failed = may in cc)
read_failed r input failed is may = is.cause

module _ (lang : Language) (small : OwnStatusIsBelow) (ends : RunsEndSo) where
  run_may_end : (a : Asked) (image : Image) (input : List ℕ) (input_end : InputEnd) (e : Ending) → e ≡ (final_of a image input input_end).ending → MayEnd input_end e
  run_may_end a image input input_end e is =
      subst (MayEnd input_end) (sym is) (ends image (settings_for a.job image.profile) a.supply.cycle a.supply.place input input_end a.job.steps)

  no_write_fault : (v : Verb) (a : Asked) (d : Devices) → HasEnding lang v a d ending.WriteFault → ⊥
  no_write_fault verb.Run a d it = run_may_end a (lang.code_of it.0) [] closed ending.WriteFault it.2
  no_write_fault verb.Exec a d it = let run = it.2 in run_may_end a it.0 run.input run.input_end ending.WriteFault run.ends
  no_write_fault verb.Migrate a d it = it
  no_write_fault verb.Compile a d it = it
  no_write_fault verb.Check a d it = it
  no_write_fault verb.Audit a d it = it
  no_write_fault verb.Sample a d it = it

  read_rose : (v : Verb) (a : Asked) (d : Devices) → HasEnding lang v a d ending.ReadFault → Rose d.input.faults_before d.input.faults_now
  read_rose verb.Run a d it = absurd (let e : closed ≡ failed = run_may_end a (lang.code_of it.0) [] closed ending.ReadFault it.2 in cc)
  read_rose verb.Exec a d it = let run = it.2 in read_failed d.input run.input run.input_end run.is_input (run_may_end a it.0 run.input run.input_end ending.ReadFault run.ends)
  read_rose verb.Migrate a d it = absurd it
  read_rose verb.Compile a d it = absurd it
  read_rose verb.Check a d it = absurd it
  read_rose verb.Audit a d it = absurd it
  read_rose verb.Sample a d it = absurd it

  -- ---- all was told

  told_does : (h : Handed) (d : Devices) (s n : ℕ) (it : Does lang h d s n) → Delivers (wants_report it.job) it.outcome d.out d.err s n → ¬ GivesWay s → IsTold lang h d s n
  told_does h d s n it (whole w e status_is count) kept =
      record { job = it.job; asks = it.asks; outcome = it.outcome; comes = it.comes; cause = caused lang it.job h d it.outcome it.comes; out = w; err = e; status_is = status_is; count = count }
  told_does h d s n it (out_failed w e status_is count) kept = absurd (kept (inl status_is))
  told_does h d s n it (err_failed w e status_is count) kept = absurd (kept (inl status_is))
  told_does h d s n it (lost keeps w e status_is count) kept = absurd (kept (inr status_is))
  told_does h d s n it (starved t w e status_is count) kept = absurd (kept (inr status_is))

  pub all_is_told : AllIsTold lang
  all_is_told h d s n (does it) kept = told_does h d s n it it.delivers kept
  all_is_told h d s n (helpless it) kept = absurd (kept (inr it.status_is))

  told_at : (h : Handed) (d : Devices) (s n : ℕ) → Answers lang h d s n → s ≢ 143 → s ≢ 144 → IsTold lang h d s n
  told_at h d s n all p q = all_is_told h d s n all (λ way. elim way [ inl is ↦ p is | inr is ↦ q is ])

  cause_at : (h : Handed) (d : Devices) (s n : ℕ) (it : IsTold lang h d s n) (x : Answer) → it.outcome.answer ≡ x → CauseOf lang x it.job h d
  cause_at h d s n it x e = subst (λ y. CauseOf lang y it.job h d) e it.cause

  pub sinks_take_prefixes : SinksTakePrefixes lang
  sinks_take_prefixes h d s n it = prefixes_of _ it.outcome d.out d.err s n it.delivers

  pub faults_are_told : FaultsAreTold lang
  faults_are_told h d s n all kept =
      let it = all_is_told h d s n all kept in
      ((it.out.quiet, it.err.quiet), λ other. not_faulty it.outcome.answer s d.folder it.status_is other (folder_sound lang it.job h d it.outcome it.comes))

  pub input_is_left : InputIsLeft lang
  input_is_left h d s n (does it) others = input_unread lang it.job h d it.outcome others it.asks it.comes
  input_is_left h d s n (helpless it) others = it.idle.unread

  -- ---- words

  pub usage_only : UsageOnly lang
  usage_only h d s n all is =
      let it = told_at h d s n all (λ e. omega (arith, is, e)) (λ e. omega (arith, is, e)) in
      usage_is lang it.job h d it.asks (cause_at h d s n it Usage (is_usage small it.outcome.answer (sym it.status_is ∙ is)))

  pub usage_when : UsageWhen lang
  usage_when h d s n (does it) usage = delivered d _ it.outcome _ s n (none_asked lang it.job h d it.outcome usage it.asks it.comes) it.delivers
  usage_when h d s n (helpless it) usage = nothing_came d _ s it.status_is it.out it.err

  pub usage_takes_no_memory : UsageTakesNoMemory lang
  usage_takes_no_memory h d s n (does it) usage =
      usage_status s n d it.outcome _ (none_asked lang it.job h d it.outcome (λ job asks. usage job asks.asked) it.asks it.comes) it.delivers
  usage_takes_no_memory h d s n (helpless it) usage = absurd (usage it.asks.0 it.asks.1)

  -- ---- files

  cannot_load : (job : Option Job) (h : Handed) (d : Devices) → Ask h.words (length h.makers) job → CauseOf lang FileFault job h d → CannotLoad h d
  cannot_load None h d asks c = absurd c
  cannot_load (Some job) h d asks c = record { job = job; asks = asks; cause = c.2 }

  pub file_fault_only : FileFaultOnly lang
  file_fault_only h d s n all is =
      let it = told_at h d s n all (λ e. omega (arith, is, e)) (λ e. omega (arith, is, e)) in
      cannot_load it.job h d it.asks (cause_at h d s n it FileFault (is_file_fault small it.outcome.answer (sym it.status_is ∙ is)))

  has_long : (job : Option Job) (h : Handed) (d : Devices) → Ask h.words (length h.makers) job → CauseOf lang FileLong job h d → HasLongFile h d
  has_long None h d asks c = absurd c
  has_long (Some job) h d asks c = record { job = job; asks = asks; most = c.0; loads = c.1; cause = c.2 }

  pub file_long_only : FileLongOnly lang
  file_long_only h d s n all is =
      let it = told_at h d s n all (λ e. omega (arith, is, e)) (λ e. omega (arith, is, e)) in
      has_long it.job h d it.asks (cause_at h d s n it FileLong (is_file_long small it.outcome.answer (sym it.status_is ∙ is)))

  -- ---- sources and images

  fault_told : (h : Handed) (d : Devices) (s n : ℕ) (it : IsTold lang h d s n) (job : Option Job) → it.job ≡ job → Ask h.words (length h.makers) job → (f : SourceFault) → it.outcome.answer ≡ Refused f → CauseOf lang (Refused f) job h d → FaultTold lang h d s n
  fault_told h d s n it None is asks f e c = absurd c
  fault_told h d s n it (Some job) is asks f e c = record { job = job; asks = asks; fault = f; has = c; told = it; is = e }

  pub fault_only : FaultOnly lang
  fault_only h d s n all low high =
      let it = told_at h d s n all (λ e. omega (arith, high, e)) (λ e. omega (arith, high, e)) in
      let f = is_refused small it.outcome.answer s (sym it.status_is) low high in
      fault_told h d s n it it.job refl it.asks f.0 f.1 (cause_at h d s n it (Refused f.0) f.1)

  bad_told : (job : Option Job) (h : Handed) (d : Devices) (b : _) → Ask h.words (length h.makers) job → CauseOf lang (Bad b) job h d → BadTold lang h d
  bad_told None h d b asks c = absurd c
  bad_told (Some job) h d b asks c = record { job = job; asks = asks; bad = b; has = c }

  pub bad_only : BadOnly lang
  bad_only h d s n all is =
      let it = told_at h d s n all (λ e. omega (arith, is, e)) (λ e. omega (arith, is, e)) in
      let b = is_bad small it.outcome.answer (sym it.status_is ∙ is) in
      bad_told it.job h d b.0 it.asks (cause_at h d s n it (Bad b.0) b.1)

  ran_to : (job : Option Job) (h : Handed) (d : Devices) (s : ℕ) (e : Ending) → s ≡ endings.status_of e → Ask h.words (length h.makers) job → CauseOf lang (Ran e) job h d → RanTo lang h d s
  ran_to None h d s e is asks c = absurd c
  ran_to (Some job) h d s e is asks c = record { job = job; asks = asks; ending = e; status_is = is; ended = c }

  pub ending_only : EndingOnly lang
  ending_only h d s n all low high =
      let it = told_at h d s n all (λ e. omega (arith, high, e)) (λ e. omega (arith, high, e)) in
      let e = is_ran it.outcome.answer s (sym it.status_is) low (omega (arith, high)) in
      ran_to it.job h d s e.0 (sym e.2) it.asks (cause_at h d s n it (Ran e.0) e.1)

  pub read_fault_only : ReadFaultOnly lang
  read_fault_only h d s n all is =
      let it = ending_only h d s n all (omega (arith, is)) (omega (arith, is)) in
      read_rose it.job.verb _ d (subst (HasEnding lang it.job.verb _ d) (is_read_fault small it.ending (sym it.status_is ∙ is)) it.ended)

  later_told : (job : Option Job) (h : Handed) (d : Devices) → Ask h.words (length h.makers) job → CauseOf lang NotYet job h d → LaterTold lang h d
  later_told None h d asks c = absurd c
  later_told (Some job) h d asks c = record { job = job; asks = asks; cause = c }

  pub not_yet_only : NotYetOnly lang
  not_yet_only h d s n all is =
      let it = told_at h d s n all (λ e. omega (arith, is, e)) (λ e. omega (arith, is, e)) in
      later_told it.job h d it.asks (cause_at h d s n it NotYet (is_not_yet small it.outcome.answer (sym it.status_is ∙ is)))

  pub own_only : OwnOnly lang
  own_only h d s n all low =
      let it = told_at h d s n all (λ e. omega (arith, low, e)) (λ e. omega (arith, low, e)) in
      (it, is_own it.outcome.answer (subst (λ x. x < 128) it.status_is low))

  status_small : (s : ℕ) (d : Devices) (n : ℕ) (report : Bool) (o : Outcome) → Delivers report o d.out d.err s n → s ≤ 145
  status_small s d n report o (whole w e is c) = subst (λ x. x ≤ 145) (sym is) (statuses_small small o.answer)
  status_small s d n report o (out_failed w e is c) = omega (arith, is)
  status_small s d n report o (err_failed w e is c) = omega (arith, is)
  status_small s d n report o (lost keeps w e is c) = omega (arith, is)
  status_small s d n report o (starved t w e is c) = omega (arith, is)

  pub no_other : NoOther lang
  no_other h d s n (does it) = status_small s d n _ it.outcome it.delivers
  no_other h d s n (helpless it) = let is = it.status_is in omega (arith, is)

  -- ---- writes

  wrote_wrongly : (h : Handed) (d : Devices) (s n : ℕ) (it : Does lang h d s n) → s ≡ 143 → Delivers (wants_report it.job) it.outcome d.out d.err s n → Rose d.out.faults_before d.out.faults_now ⊎ Rose d.err.faults_before d.err.faults_now
  wrote_wrongly h d s n it is (whole w e own_is c) =
      let found = is_ran it.outcome.answer s (sym own_is) (omega (arith, is)) (omega (arith, is)) in
      let cause : CauseOf lang (Ran found.0) it.job h d = subst (λ y. CauseOf lang y it.job h d) found.1 (caused lang it.job h d it.outcome it.comes) in
      let end = ran_to it.job h d s found.0 (sym found.2) it.asks cause in
      absurd (no_write_fault end.job.verb _ d (subst (HasEnding lang end.job.verb _ d) (is_write_fault small end.ending (sym end.status_is ∙ is)) end.ended))
  wrote_wrongly h d s n it is (out_failed w e own_is c) = inl w.cause
  wrote_wrongly h d s n it is (err_failed w e own_is c) = inr e.cause
  wrote_wrongly h d s n it is (lost keeps w e own_is c) = absurd (omega (arith, is, own_is))
  wrote_wrongly h d s n it is (starved t w e own_is c) = absurd (omega (arith, is, own_is))

  pub write_fault_only : WriteFaultOnly lang
  write_fault_only h d s n (does it) is = wrote_wrongly h d s n it is it.delivers
  write_fault_only h d s n (helpless it) is = let other = it.status_is in absurd (omega (arith, is, other))
