-- A told file comes to one outcome, which is delivered but for a failed write or want of memory.
use Rattle.std.proofs.Common.{◌≡◌, ℕ, ◌<◌, ◌≤◌, List, [], length, sym, ap, ◌∙◌, subst, arith, inl, inr}
use Rattle.std.specs.Prelude.{Option, Some, None, IsSomeAnd}
use Rattle.std.specs.FinMap.{get}
use Rattle.ob_base.specs.Folder.{Files, IsMissing}
use Rattle.ob_base.specs.Devices.{Loading, Reading, IsSound, IsUnavailable, IsToldAs, IsToldLong}
use Rattle.ob_tree.specs.declared.faults.SourceFault.{SourceFault}
use Rattle.ob_settings.specs.declared.job.Job.{Job}
use Rattle.ob_settings.specs.declared.verb.Verb.{Verb}
use Rattle.ob_settings.specs.declared.verb.Verb.TheVariants as verb
use Rattle.ob_settings.specs.Jobs.{OneJob}
use Rattle.ob_commands.specs.declared.answer.Answer.TheVariants.{FileFault, FileLong, Refused, NotYet}
use Rattle.ob_commands.specs.Answers.{Outcome, told_why}
use Rattle.ob_commands.specs.Parts as parts
use Rattle.ob_commands.specs.Parts.{Asked, Language, Sources, asked, most_source_bytes, OfFile, unavailable, long, OfSource, faulty, later, accepted}
use Rattle.ob_commands.specs.Run.{Run}
use Rattle.ob_commands.specs.Check.{Check}
use Rattle.ob_commands.specs.Top.{Ask, Comes, ComesOf, Devices, Handed, does, helpless}
use Rattle.ob_commands.specs.Causes.{Loads, sources_of}
use Rattle.ob_commands.specs.Laws.{AsksFor, CheckWhen, FailedTold, FailedWhen, FaultWhen, FileLongWhen, HasFile, HasText, IsExact, LaterWhen, MissingWhen, RunWhen, TakesSource}
use Rattle.ob_commands.proofs.Rows.{delivered, nothing_came}

-- ---- what the folder tells

same_bytes : (o : Option (List ℕ)) (a b : List ℕ) → o ≡ Some a → o ≡ Some b → a ≡ b
same_bytes o a b p q = let e : ◌≡◌ {A = Option (List ℕ)} (Some a) (Some b) = sym p ∙ q in cc

told_as : (files : Option Files) (known : Files) (name bytes loaded : List ℕ) → files ≡ Some known → get known name ≡ Some bytes → IsToldAs files name loaded → loaded ≡ bytes
told_as files known name bytes loaded tells has told =
    let at : IsToldAs (Some known) name loaded = subst (λ f. IsToldAs f name loaded) tells told in
    same_bytes (get known name) loaded bytes at has

some_and : (o : Option (List ℕ)) (bytes : List ℕ) (P : List ℕ → Type 0) → o ≡ Some bytes → IsSomeAnd o P → P bytes
some_and o bytes P is h = subst (λ f. IsSomeAnd f P) is h

told_long : (files : Option Files) (known : Files) (name bytes : List ℕ) (most : ℕ) → files ≡ Some known → get known name ≡ Some bytes → IsToldLong files name most → most < length bytes
told_long files known name bytes most tells has told =
    let at : IsToldLong (Some known) name most = subst (λ f. IsToldLong f name most) tells told in
    some_and (get known name) bytes (λ b. most < length b) has at

not_missing : (files : Option Files) (known : Files) (name bytes : List ℕ) → files ≡ Some known → get known name ≡ Some bytes → IsMissing files name → ⊥
not_missing files known name bytes tells has missing =
    let at : IsMissing (Some known) name = subst (λ f. IsMissing f name) tells missing in
    let e : ◌≡◌ {A = Option (List ℕ)} (Some bytes) None = sym has ∙ at in
    cc

not_unavailable : (l : Loading) (name bytes : List ℕ) → HasFile l name bytes → IsUnavailable l name → ⊥
not_unavailable l name bytes has (inl rose) = has.quiet rose
not_unavailable l name bytes has (inr missing) = not_missing l.files has.files name bytes has.tells has.has missing.0

missing_told : (files : Option Files) (name loaded : List ℕ) → IsMissing files name → IsToldAs files name loaded → ⊥
missing_told None name loaded missing told = missing
missing_told (Some known) name loaded missing told = let e : ◌≡◌ {A = Option (List ℕ)} (Some loaded) None = sym told ∙ missing in cc

missing_long : (files : Option Files) (name : List ℕ) (most : ℕ) → IsMissing files name → IsToldLong files name most → ⊥
missing_long None name most missing told = missing
missing_long (Some known) name most missing told = subst (λ o. IsSomeAnd o (λ b. most < length b)) missing told

-- a short file was loaded, and a long one wasn't
is_loaded : (a : Asked) (most : ℕ) (l : Loading) (r : Reading) (o : Outcome) (Then : List ℕ → Type 0) (bytes : List ℕ) → HasFile l a.job.argument bytes → length bytes ≤ most → OfFile a most l r o Then → Then bytes
is_loaded a most l r o Then bytes has short (unavailable cause unread is) = absurd (not_unavailable l a.job.argument bytes has cause)
is_loaded a most l r o Then bytes has short (long cause unread is) =
    let above = told_long l.files has.files a.job.argument bytes most has.tells has.has cause.told in absurd (omega (arith, above, short))
is_loaded a most l r o Then bytes has short (parts.loaded given from goes_on) = subst Then (told_as l.files has.files a.job.argument bytes given has.tells has.has from.told) goes_on

is_long : (a : Asked) (most : ℕ) (l : Loading) (r : Reading) (o : Outcome) (Then : List ℕ → Type 0) (bytes : List ℕ) → HasFile l a.job.argument bytes → most < length bytes → OfFile a most l r o Then → o ≡ told_why a.job.argument FileLong
is_long a most l r o Then bytes has above (unavailable cause unread is) = absurd (not_unavailable l a.job.argument bytes has cause)
is_long a most l r o Then bytes has above (long cause unread is) = is
is_long a most l r o Then bytes has above (parts.loaded given from goes_on) =
    let same : given ≡ bytes = told_as l.files has.files a.job.argument bytes given has.tells has.has from.told in
    let short : length bytes ≤ most = subst (λ b. length b ≤ most) same from.short in
    absurd (omega (arith, above, short))

job_long : (lang : Language) (v : Verb) (a : Asked) (l : Loading) (r : Reading) (o : Outcome) (bytes : List ℕ) (most : ℕ) → Loads v most → HasFile l a.job.argument bytes → most < length bytes → ComesOf lang v a l r o → o ≡ told_why a.job.argument FileLong
job_long lang verb.Run a l r o bytes most loads has above comes = is_long a _ l r o _ bytes has (subst (λ m. m < length bytes) loads above) comes
job_long lang verb.Exec a l r o bytes most loads has above comes = is_long a _ l r o _ bytes has (subst (λ m. m < length bytes) loads above) comes
job_long lang verb.Migrate a l r o bytes most loads has above comes = is_long a _ l r o _ bytes has (subst (λ m. m < length bytes) loads above) comes
job_long lang verb.Compile a l r o bytes most loads has above comes = absurd loads
job_long lang verb.Check a l r o bytes most loads has above comes = is_long a _ l r o _ bytes has (subst (λ m. m < length bytes) loads above) comes
job_long lang verb.Audit a l r o bytes most loads has above comes = absurd loads
job_long lang verb.Sample a l r o bytes most loads has above comes = absurd loads

-- a file that isn't there wasn't loaded
is_missing : (a : Asked) (most : ℕ) (l : Loading) (r : Reading) (o : Outcome) (Then : List ℕ → Type 0) → IsMissing l.files a.job.argument → OfFile a most l r o Then → o ≡ told_why a.job.argument FileFault
is_missing a most l r o Then none (unavailable cause unread is) = is
is_missing a most l r o Then none (long cause unread is) = absurd (missing_long l.files a.job.argument most none cause.told)
is_missing a most l r o Then none (parts.loaded bytes from goes_on) = absurd (missing_told l.files a.job.argument bytes none from.told)

job_missing : (lang : Language) (v : Verb) (a : Asked) (l : Loading) (r : Reading) (o : Outcome) (most : ℕ) → Loads v most → IsMissing l.files a.job.argument → ComesOf lang v a l r o → o ≡ told_why a.job.argument FileFault
job_missing lang verb.Run a l r o most loads none comes = is_missing a _ l r o _ none comes
job_missing lang verb.Exec a l r o most loads none comes = is_missing a _ l r o _ none comes
job_missing lang verb.Migrate a l r o most loads none comes = is_missing a _ l r o _ none comes
job_missing lang verb.Compile a l r o most loads none comes = absurd loads
job_missing lang verb.Check a l r o most loads none comes = is_missing a _ l r o _ none comes
job_missing lang verb.Audit a l r o most loads none comes = absurd loads
job_missing lang verb.Sample a l r o most loads none comes = absurd loads

-- a folder that failed
file_failed : (a : Asked) (most : ℕ) (l : Loading) (r : Reading) (o : Outcome) (Then : List ℕ → Type 0) → ¬ IsSound l → OfFile a most l r o Then → o ≡ told_why a.job.argument FileFault
file_failed a most l r o Then failed (unavailable cause unread is) = is
file_failed a most l r o Then failed (long cause unread is) = absurd (failed cause.sound)
file_failed a most l r o Then failed (parts.loaded bytes from goes_on) = absurd (failed from.sound)

job_failed : (lang : Language) (v : Verb) (a : Asked) (l : Loading) (r : Reading) (o : Outcome) → ¬ IsSound l → ComesOf lang v a l r o → o ≡ told_why a.job.argument FileFault
job_failed lang verb.Run a l r o failed comes = file_failed a _ l r o _ failed comes
job_failed lang verb.Exec a l r o failed comes = file_failed a _ l r o _ failed comes
job_failed lang verb.Migrate a l r o failed comes = file_failed a _ l r o _ failed comes
job_failed lang verb.Compile a l r o failed comes = absurd (failed comes.idle.sound)
job_failed lang verb.Check a l r o failed comes = file_failed a _ l r o _ failed comes
job_failed lang verb.Audit a l r o failed comes = absurd (failed comes.idle.sound)
job_failed lang verb.Sample a l r o failed comes = absurd (failed comes.idle.sound)

pub failed_when : (lang : Language) → FailedWhen lang
failed_when lang h d s n (helpless it) failed = absurd (failed it.idle.sound)
failed_when lang h d s n (does it) failed = by it.job it.asks it.comes
  where
    by : (job : Option Job) → Ask h.words (length h.makers) job → Comes lang job h d it.outcome → FailedTold h d s n
    by None asks comes = absurd (failed comes.idle.sound)
    by (Some job) asks comes =
        record { job = job; asks = asks; told = delivered d _ it.outcome _ s n (job_failed lang job.verb (asked job h.makers h.watchers) d.folder d.input it.outcome failed comes) it.delivers }

-- ---- what is known of a source

module _ (s : Sources) (exact : IsExact s) (name text : List ℕ) (r : Reading) (o : Outcome) (Then : s.Program → Type 0) where
  of_fault : (fault : SourceFault) → s.IsFaultOf text fault → OfSource s name text r o Then → o ≡ told_why name (Refused fault)
  of_fault fault is_fault (faulty other cause unread is) = is ∙ ap (λ f. told_why name (Refused f)) (exact.one_fault text other fault cause is_fault)
  of_fault fault is_fault (later cause unread is) = absurd (exact.fault_or_later text fault is_fault cause)
  of_fault fault is_fault (accepted program typed goes_on) = absurd (exact.fault_or_program text fault program is_fault typed)

  of_later : s.IsLater text → OfSource s name text r o Then → o ≡ told_why name NotYet
  of_later is_later (faulty fault cause unread is) = absurd (exact.fault_or_later text fault cause is_later)
  of_later is_later (later cause unread is) = is
  of_later is_later (accepted program typed goes_on) = absurd (exact.later_or_program text program is_later typed)

  of_program : (program : s.Program) → s.IsAccepted text program → OfSource s name text r o Then → Then program
  of_program program typed (faulty fault cause unread is) = absurd (exact.fault_or_program text fault program cause typed)
  of_program program typed (later cause unread is) = absurd (exact.later_or_program text program cause typed)
  of_program program typed (accepted other also goes_on) = subst Then (exact.one_program text other program also typed) goes_on

module _ (lang : Language) (one : OneJob) (compiled : IsExact lang.compiled) (checked : IsExact lang.checked) where
  -- the words ask for one job
  pub same_job : (h : Handed) (d : Devices) (o : Outcome) (found : Option Job) (job : Job) → Ask h.words (length h.makers) found → AsksFor h job → Comes lang found h d o → ComesOf lang job.verb (asked job h.makers h.watchers) d.folder d.input o
  same_job h d o None job asks also comes = absurd (asks job also)
  same_job h d o (Some other) job asks also comes = subst (λ j. ComesOf lang j.verb (asked j h.makers h.watchers) d.folder d.input o) (one h.words other job asks.asked also.asked) comes

  pub with_verb : (v w : Verb) (a : Asked) (l : Loading) (r : Reading) (o : Outcome) → w ≡ v → ComesOf lang w a l r o → ComesOf lang v a l r o
  with_verb v w a l r o is comes = subst (λ x. ComesOf lang x a l r o) is comes

  -- the text of a job goes on as its command says
  of_run : (h : Handed) (d : Devices) (o : Outcome) (job : Job) (text : List ℕ) → HasText h d verb.Run job text → ComesOf lang job.verb (asked job h.makers h.watchers) d.folder d.input o → Run lang (asked job h.makers h.watchers) text d.input o
  of_run h d o job text has comes =
      is_loaded (asked job h.makers h.watchers) most_source_bytes d.folder d.input o _ text has.file has.short (with_verb verb.Run job.verb (asked job h.makers h.watchers) d.folder d.input o has.verb_is comes)

  of_check : (h : Handed) (d : Devices) (o : Outcome) (job : Job) (text : List ℕ) → HasText h d verb.Check job text → ComesOf lang job.verb (asked job h.makers h.watchers) d.folder d.input o → Check lang.checked (asked job h.makers h.watchers) text d.input o
  of_check h d o job text has comes =
      is_loaded (asked job h.makers h.watchers) most_source_bytes d.folder d.input o _ text has.file has.short (with_verb verb.Check job.verb (asked job h.makers h.watchers) d.folder d.input o has.verb_is comes)

  is_fault_of : (v : Verb) (h : Handed) (d : Devices) (o : Outcome) (job : Job) (text : List ℕ) (fault : SourceFault) → TakesSource v → HasText h d v job text → (sources_of lang v).IsFaultOf text fault →
      ComesOf lang job.verb (asked job h.makers h.watchers) d.folder d.input o → o ≡ told_why job.argument (Refused fault)
  is_fault_of verb.Run h d o job text fault takes has is_fault comes = of_fault lang.compiled compiled job.argument text d.input o _ fault is_fault (of_run h d o job text has comes)
  is_fault_of verb.Check h d o job text fault takes has is_fault comes = of_fault lang.checked checked job.argument text d.input o _ fault is_fault (of_check h d o job text has comes)
  is_fault_of verb.Exec h d o job text fault takes has is_fault comes = absurd takes
  is_fault_of verb.Migrate h d o job text fault takes has is_fault comes = absurd takes
  is_fault_of verb.Compile h d o job text fault takes has is_fault comes = absurd takes
  is_fault_of verb.Audit h d o job text fault takes has is_fault comes = absurd takes
  is_fault_of verb.Sample h d o job text fault takes has is_fault comes = absurd takes

  is_later_of : (v : Verb) (h : Handed) (d : Devices) (o : Outcome) (job : Job) (text : List ℕ) → TakesSource v → HasText h d v job text → (sources_of lang v).IsLater text →
      ComesOf lang job.verb (asked job h.makers h.watchers) d.folder d.input o → o ≡ told_why job.argument NotYet
  is_later_of verb.Run h d o job text takes has is_later comes = of_later lang.compiled compiled job.argument text d.input o _ is_later (of_run h d o job text has comes)
  is_later_of verb.Check h d o job text takes has is_later comes = of_later lang.checked checked job.argument text d.input o _ is_later (of_check h d o job text has comes)
  is_later_of verb.Exec h d o job text takes has is_later comes = absurd takes
  is_later_of verb.Migrate h d o job text takes has is_later comes = absurd takes
  is_later_of verb.Compile h d o job text takes has is_later comes = absurd takes
  is_later_of verb.Audit h d o job text takes has is_later comes = absurd takes
  is_later_of verb.Sample h d o job text takes has is_later comes = absurd takes

  pub file_long_when : FileLongWhen lang
  file_long_when h d s n job bytes most (helpless it) asks loads has above = nothing_came d _ s it.status_is it.out it.err
  file_long_when h d s n job bytes most (does it) asks loads has above =
      let comes = same_job h d it.outcome it.job job it.asks asks it.comes in
      delivered d _ it.outcome _ s n (job_long lang job.verb (asked job h.makers h.watchers) d.folder d.input it.outcome bytes most loads has above comes) it.delivers

  pub missing_when : MissingWhen lang
  missing_when h d s n job most (helpless it) asks loads none = nothing_came d _ s it.status_is it.out it.err
  missing_when h d s n job most (does it) asks loads none =
      let comes = same_job h d it.outcome it.job job it.asks asks it.comes in
      delivered d _ it.outcome _ s n (job_missing lang job.verb (asked job h.makers h.watchers) d.folder d.input it.outcome most loads none comes) it.delivers

  pub fault_when : FaultWhen lang
  fault_when h d s n v job text fault (helpless it) takes has is_fault = nothing_came d _ s it.status_is it.out it.err
  fault_when h d s n v job text fault (does it) takes has is_fault =
      delivered d _ it.outcome _ s n (is_fault_of v h d it.outcome job text fault takes has is_fault (same_job h d it.outcome it.job job it.asks has.asks it.comes)) it.delivers

  pub later_when : LaterWhen lang
  later_when h d s n v job text (helpless it) takes has is_later = nothing_came d _ s it.status_is it.out it.err
  later_when h d s n v job text (does it) takes has is_later =
      delivered d _ it.outcome _ s n (is_later_of v h d it.outcome job text takes has is_later (same_job h d it.outcome it.job job it.asks has.asks it.comes)) it.delivers

  pub run_when : RunWhen lang
  run_when h d s n job text program (helpless it) has typed = nothing_came d _ s it.status_is it.out it.err
  run_when h d s n job text program (does it) has typed =
      let run = of_run h d it.outcome job text has (same_job h d it.outcome it.job job it.asks has.asks it.comes) in
      let goes_on = of_program lang.compiled compiled job.argument text d.input it.outcome _ program typed run in
      delivered d _ it.outcome _ s n goes_on.1 it.delivers

  pub check_when : CheckWhen lang
  check_when h d s n job text program (helpless it) has typed = nothing_came d _ s it.status_is it.out it.err
  check_when h d s n job text program (does it) has typed =
      let check = of_check h d it.outcome job text has (same_job h d it.outcome it.job job it.asks has.asks it.comes) in
      let goes_on = of_program lang.checked checked job.argument text d.input it.outcome _ program typed check in
      delivered d _ it.outcome _ s n goes_on.1 it.delivers
