-- How far the program comes with a job, by its parts.
use Rattle.std.proofs.Common.{◌≡◌, ℕ, zero, suc, ◌<◌, ◌≤◌, List, [], ◌∷◌, ◌++◌, length, map, Bool, true, false, cond, refl, sym, ap, ◌∙◌, subst, arith}
use Rattle.std.proofs.lemmas.List.{append-nil}
use Rattle.std.specs.Prelude.{Option, Some, None, ◌||◌, ◌&&◌, ◌==◌, slice_index_or}
use Rattle.std.specs.List.{list_any}
use Rattle.std.specs.Io.KnownBytes.{append_known}
use Rattle.ob_base.specs.Devices.{Loading, Reading, Writing, IsUnread, IsUnwritten, IsWritten}
use Rattle.ob_base.specs.Sink.{Tally, tally_known}
use Rattle.ob_model.specs.declared.endings.Ending.{Ending}
use Rattle.ob_model.specs.declared.endings.Ending.TheVariants as ending
use Rattle.ob_model.specs.declared.settings.Mode.TheVariants.{Boundless}
use Rattle.ob_model.specs.declared.settings.Profile.{Profile}
use Rattle.ob_model.specs.declared.settings.RunSettings.{RunSettings}
use Rattle.ob_model.specs.declared.strays.Act.TheVariants.{Store}
use Rattle.ob_model.specs.declared.strays.StrayEvent.{StrayEvent}
use Rattle.ob_model.specs.Settings.{keeps_strays}
use Rattle.ob_model.specs.Endings.{InputEnd}
use Rattle.ob_code.specs.declared.image.Image.{Image}
use Rattle.ob_code.specs.Laws.{MayEnd, RunsEndSo}
use Rattle.ob_code.specs.Rules.{IsVerified}
use Rattle.ob_code.specs.Start.{flat_final}
use Rattle.ob_code.specs.State.{Final}
use Rattle.ob_image.specs.Faults.{Spells, SpellsIn}
use Rattle.ob_image.specs.declared.layout.Version.TheVariants.{Two}
use Rattle.ob_machine.specs.Machines.{ComesTo, done, broken, starved, HasStore, Hearing, MachineState, Runs, loaded}
use Rattle.ob_report.specs.Lines.{ending_line}
use Rattle.ob_watch.specs.Watching.{Watch, after_events}
use Rattle.ob_settings.specs.declared.job.Job.{Job}
use Rattle.ob_commands.specs.declared.answer.Answer.{Answer}
use Rattle.ob_commands.specs.declared.answer.Answer.TheVariants.{Done, Usage, FileFault, FileLong, Refused, Bad, Ran, NotYet}
use Rattle.ob_commands.specs.declared.came.Came.{Came}
use Rattle.ob_commands.specs.declared.came.Came.TheVariants.{Due, Cut, Lost, Starved}
use Rattle.ob_commands.specs.Answers.{Outcome, line_of, report_of, told_why, wrote}
use Rattle.ob_commands.specs.Parts as parts
use Rattle.ob_commands.specs.Parts.{Asked, IsLoaded, OfFile, OfImage, RunsOn, RunsWith, final_of, is_store, keeps_stores, run_outcome, settings_for, unavailable, long, bad, verified}
use Rattle.ob_commands.specs.Migrate.{IsRewritten}
use Rattle.ob_commands.specs.Top.{IsIdle}
use Rattle.ob_commands.specs.Delivery.{CameTo, IsDue, IsNoFile, IsNoImage, IsPut, came_of, err_due}

-- ---- nothing was written

nothing_known : (known : Option (List ℕ)) → known ≡ append_known known []
nothing_known None = refl
nothing_known (Some bytes) = ap Some (sym (append-nil bytes))

nothing_tallied : (tally : Option Tally) → tally ≡ tally_known tally []
nothing_tallied None = refl
nothing_tallied (Some t) = refl

pub nothing_due : (w : Writing) → IsUnwritten w → IsWritten w []
nothing_due w it = record { took = it.taken ∙ nothing_known w.taken_before; tallied = it.tally ∙ nothing_tallied w.tally_before; quiet = it.quiet }

pub unwritten : (taken : Option (List ℕ)) (tally : Option Tally) (faults : ℕ) → IsUnwritten (record { taken_before = taken; taken_now = taken; tally_before = tally; tally_now = tally; faults_before = faults; faults_now = faults })
unwritten taken tally faults = record { taken = refl; tally = refl; quiet = refl }

pub not_read : (left : Option (List ℕ)) (faults : ℕ) → IsUnread (record { left_before = left; left_now = left; faults_before = faults; faults_now = faults })
not_read left faults = record { left = refl; quiet = refl }

-- ---- one relation for another

pub came_as : (a : Asked) (seen : List Watch) (P Q : Outcome → Type 0) (I J : Type 0) (c : Came) (w : Writing) → ((o : Outcome) → P o → Q o) → (I → J) → CameTo a seen P I c w → CameTo a seen Q J c w
came_as a seen P Q I J (Due answer n) w f g it =
    record { outcome = it.outcome; comes = f it.outcome it.comes; answer_is = it.answer_is; err_is = it.err_is; count = it.count; all_out = it.all_out }
came_as a seen P Q I J (Cut n) w f g it = record { outcome = it.outcome; comes = f it.outcome it.comes; cut = it.cut; count = it.count }
came_as a seen P Q I J (Lost n) w f g it = record { outcome = it.outcome; comes = f it.outcome it.comes; keeps = it.keeps; sent = it.sent; count = it.count }
came_as a seen P Q I J Starved w f g it = (g it.0, it.1)

-- an answer of which nothing but its line is to be told
pub why : (a : Asked) (seen : List Watch) (P : Outcome → Type 0) (answer : Answer) (n : ℕ) (w : Writing) → n ≡ 0 → IsUnwritten w → line_of a.job.argument answer ≡ err_due a seen answer → P (told_why a.job.argument answer) → IsDue a seen P answer n w
why a seen P answer n w none quiet err comes =
    record { outcome = told_why a.job.argument answer; comes = comes; answer_is = refl; err_is = err; count = none; all_out = nothing_due w quiet }

-- ---- files

pub no_file : (a : Asked) (seen : List Watch) (most : ℕ) (l : Loading) (r : Reading) (Then : Outcome → List ℕ → Type 0) (c : Came) (w : Writing) → IsUnread r → IsUnwritten w → IsNoFile l a.job.argument most c →
    CameTo a seen (λ o. OfFile a most l r o (Then o)) (IsIdle l r) c w
no_file a seen most l r Then (Due FileFault n) w quiet unwritten it = why a seen _ FileFault n w it.1 unwritten refl (unavailable it.0 quiet refl)
no_file a seen most l r Then (Due FileLong n) w quiet unwritten it = why a seen _ FileLong n w it.1 unwritten refl (long it.0 quiet refl)
no_file a seen most l r Then (Due Done n) w quiet unwritten it = absurd it
no_file a seen most l r Then (Due Usage n) w quiet unwritten it = absurd it
no_file a seen most l r Then (Due (Refused fault) n) w quiet unwritten it = absurd it
no_file a seen most l r Then (Due (Bad fault) n) w quiet unwritten it = absurd it
no_file a seen most l r Then (Due (Ran e) n) w quiet unwritten it = absurd it
no_file a seen most l r Then (Due NotYet n) w quiet unwritten it = absurd it
no_file a seen most l r Then (Cut n) w quiet unwritten it = absurd it
no_file a seen most l r Then (Lost n) w quiet unwritten it = absurd it
no_file a seen most l r Then Starved w quiet unwritten it = (record { sound = it; unread = quiet }, unwritten)

pub of_file : (a : Asked) (seen : List Watch) (most : ℕ) (l : Loading) (r : Reading) (Then : Outcome → List ℕ → Type 0) (bytes : List ℕ) (c : Came) (w : Writing) → IsLoaded l a.job.argument most bytes →
    CameTo a seen (λ o. Then o bytes) (IsUnread r) c w → CameTo a seen (λ o. OfFile a most l r o (Then o)) (IsIdle l r) c w
of_file a seen most l r Then bytes c w from it =
    came_as a seen _ _ (IsUnread r) (IsIdle l r) c w (λ o comes. parts.loaded bytes from comes) (λ unread. record { sound = from.sound; unread = unread }) it

pub loaded_as : (l : Loading) (name argument : List ℕ) (most : ℕ) (given bytes : List ℕ) → name ≡ argument → bytes ≡ given → IsLoaded l name most given → IsLoaded l argument most bytes
loaded_as l name argument most given bytes named same it = subst (λ n. IsLoaded l n most bytes) named (subst (IsLoaded l name most) (sym same) it)

pub no_file_as : (l : Loading) (name argument : List ℕ) (most : ℕ) (c : Came) → name ≡ argument → IsNoFile l name most c → IsNoFile l argument most c
no_file_as l name argument most c named it = subst (λ n. IsNoFile l n most c) named it

-- ---- images

pub no_image : (a : Asked) (seen : List Watch) (bytes : List ℕ) (r : Reading) (Then : Outcome → Image → Type 0) (c : Came) (w : Writing) → IsUnread r → IsUnwritten w → IsNoImage bytes c →
    CameTo a seen (λ o. OfImage a.job.argument bytes r o (Then o)) (IsUnread r) c w
no_image a seen bytes r Then (Due (Bad fault) n) w quiet unwritten it = why a seen _ (Bad fault) n w it.1 unwritten refl (bad fault it.0 quiet refl)
no_image a seen bytes r Then (Due FileFault n) w quiet unwritten it = absurd it
no_image a seen bytes r Then (Due FileLong n) w quiet unwritten it = absurd it
no_image a seen bytes r Then (Due Done n) w quiet unwritten it = absurd it
no_image a seen bytes r Then (Due Usage n) w quiet unwritten it = absurd it
no_image a seen bytes r Then (Due (Refused fault) n) w quiet unwritten it = absurd it
no_image a seen bytes r Then (Due (Ran e) n) w quiet unwritten it = absurd it
no_image a seen bytes r Then (Due NotYet n) w quiet unwritten it = absurd it
no_image a seen bytes r Then (Cut n) w quiet unwritten it = absurd it
no_image a seen bytes r Then (Lost n) w quiet unwritten it = absurd it
no_image a seen bytes r Then Starved w quiet unwritten it = (quiet, unwritten)

pub of_image : (a : Asked) (seen : List Watch) (bytes : List ℕ) (r : Reading) (Then : Outcome → Image → Type 0) (image : Image) (c : Came) (w : Writing) → Spells bytes image → IsVerified image →
    CameTo a seen (λ o. Then o image) (IsUnread r) c w → CameTo a seen (λ o. OfImage a.job.argument bytes r o (Then o)) (IsUnread r) c w
of_image a seen bytes r Then image c w spelled sound it = came_as a seen _ _ (IsUnread r) (IsUnread r) c w (λ o comes. verified image spelled sound comes) (λ unread. unread) it

-- ---- output

-- bytes that are an outcome's
pub put_came : (a : Asked) (seen : List Watch) (P : Outcome → Type 0) (I : Type 0) (bytes : List ℕ) (c : Came) (w : Writing) → P (wrote bytes) → IsPut bytes c w → CameTo a seen P I c w
put_came a seen P I bytes (Due Done n) w comes it = record { outcome = wrote bytes; comes = comes; answer_is = refl; err_is = refl; count = it.1; all_out = it.0 }
put_came a seen P I bytes (Due Usage n) w comes it = absurd it
put_came a seen P I bytes (Due FileFault n) w comes it = absurd it
put_came a seen P I bytes (Due FileLong n) w comes it = absurd it
put_came a seen P I bytes (Due (Refused fault) n) w comes it = absurd it
put_came a seen P I bytes (Due (Bad fault) n) w comes it = absurd it
put_came a seen P I bytes (Due (Ran e) n) w comes it = absurd it
put_came a seen P I bytes (Due NotYet n) w comes it = absurd it
put_came a seen P I bytes (Cut n) w comes it = record { outcome = wrote bytes; comes = comes; cut = it.0; count = omega (arith, it.1) }
put_came a seen P I bytes (Lost n) w comes it = absurd it
put_came a seen P I bytes Starved w comes it = absurd it

pub of_put : (a : Asked) (seen : List Watch) (image : Image) (bytes : List ℕ) (r : Reading) (c : Came) (w : Writing) → IsUnread r → SpellsIn Two bytes image → IsPut bytes c w → CameTo a seen (λ o. IsRewritten image r o) (IsUnread r) c w
of_put a seen image bytes r c w quiet spelled it =
    put_came a seen (λ o. IsRewritten image r o) (IsUnread r) bytes c w (record { unread = quiet; bytes = bytes; spelled = spelled; is = refl }) it

-- ---- runs

or_true : (b c : Bool) → c ≡ true → b || c ≡ true
or_true true c is = refl
or_true false c is = is

any_at : {X : Type 0} (test : X → Bool) (xs : List X) (k : ℕ) (x : X) → k < length xs → slice_index_or xs k x ≡ x → test x ≡ true → list_any test xs ≡ true
any_at test [] k x inside is passes = absurd (omega arith)
any_at test (y ∷ ys) zero x inside is passes = ap (λ b. b || list_any test ys) (ap test is ∙ passes)
any_at test (y ∷ ys) (suc k) x inside is passes = or_true (test y) (list_any test ys) (any_at test ys k x (omega arith) is passes)

stored : (e : StrayEvent) → e.act ≡ Store → is_store e ≡ true
stored e is = ap parts.is_store_act is

mode_by : (b : Bool) (s t : RunSettings) → s.mode ≡ t.mode → (cond b s t).mode ≡ t.mode
mode_by true s t is = is
mode_by false s t is = refl

mode_is : (job : Job) (profile : Profile) → (settings_for job profile).mode ≡ job.settings.mode
mode_is job profile = mode_by (job.profile == 0) (record job.settings { profile = profile }) job.settings refl

-- a store that boundless mode keeps
stores_kept : (a : Asked) (profile : Profile) (f : Final) → (settings_for a.job profile).mode ≡ Boundless → HasStore f.state.events → keeps_stores a f ≡ true
stores_kept a profile f boundless (e, at, is) =
    let mode : a.job.settings.mode ≡ Boundless = sym (mode_is a.job profile) ∙ boundless in
    ap (λ m. keeps_strays m && list_any is_store f.state.events) mode ∙ any_at is_store f.state.events at.0 e at.1 at.2 (stored e is)

run_due : (a : Asked) (image : Image) (input : List ℕ) (input_end : InputEnd) (seen : List Watch) (w : Writing) (e : Ending) (n : ℕ) → e ≡ (final_of a image input input_end).ending → n ≡ (final_of a image input input_end).state.instructions →
    seen ≡ map (after_events (final_of a image input input_end).state.events) a.watchers → IsWritten w (final_of a image input input_end).state.output → IsDue a seen (RunsWith a image input input_end) (Ran e) n w
run_due a image input input_end seen w e n ends counts told all_written =
    let f : Final = final_of a image input input_end in
    record {
      outcome = run_outcome a f;
      comes = refl;
      answer_is = ap Ran (sym ends);
      err_is = ap (λ ws. ending_line f.ending ++ report_of a.job.report ws) (sym told) ∙ ap (λ x. ending_line x ++ report_of a.job.report seen) (sym ends);
      count = counts;
      all_out = all_written;
    }

due_came : (a : Asked) (seen : List Watch) (P : Outcome → Type 0) (I : Type 0) (input_end : InputEnd) (n : ℕ) (w : Writing) (e : Ending) → MayEnd input_end e → IsDue a seen P (Ran e) n w → CameTo a seen P I (came_of e n) w
due_came a seen P I input_end n w (ending.Ended m) may it = it
due_came a seen P I input_end n w ending.Steps may it = it
due_came a seen P I input_end n w ending.Divide may it = it
due_came a seen P I input_end n w ending.Stack may it = it
due_came a seen P I input_end n w ending.Descriptors may it = it
due_came a seen P I input_end n w ending.Far may it = it
due_came a seen P I input_end n w ending.Spent may it = it
due_came a seen P I input_end n w ending.ReadFault may it = it
due_came a seen P I input_end n w ending.WriteFault may it = absurd may
due_came a seen P I input_end n w ending.NoMemory may it = absurd may

run_came : (a : Asked) (image : Image) (I : Type 0) (w : Writing) (h : Hearing) (after : MachineState) (e : Ending) (n : ℕ) (input : List ℕ) (input_end : InputEnd) → RunsEndSo → h.seen_before ≡ a.watchers → n ≡ after.instructions →
    ComesTo (final_of a image input input_end) (loaded image (settings_for a.job image.profile)) after e w h → CameTo a h.seen_now (RunsWith a image input input_end) I (came_of e n) w
run_came a image I w h after e n input input_end ends before counts (done is) =
    let f : Final = final_of a image input input_end in
    let may : MayEnd input_end f.ending = ends image (settings_for a.job image.profile) a.supply.cycle a.supply.place input input_end a.job.steps in
    due_came a h.seen_now (RunsWith a image input input_end) I input_end n w e (subst (MayEnd input_end) (sym is.ending) may)
    (run_due a image input input_end h.seen_now w e n is.ending (counts ∙ ap (λ (m : MachineState). m.instructions) is.machine) (is.events ∙ ap (map (after_events f.state.events)) before) is.output)
run_came a image I w h after e n input input_end ends before counts (broken is) =
    let f : Final = final_of a image input input_end in
    subst (λ x. CameTo a h.seen_now (RunsWith a image input input_end) I (came_of x n) w) (sym is.ending)
    (record { outcome = run_outcome a f; comes = refl; cut = is.output; count = subst (λ m. m ≤ f.state.instructions) (sym counts) is.instructions })
run_came a image I w h after e n input input_end ends before counts (starved is) =
    let f : Final = final_of a image input input_end in
    subst (λ x. CameTo a h.seen_now (RunsWith a image input input_end) I (came_of x n) w) (sym is.ending)
    (record { outcome = run_outcome a f; comes = refl; keeps = stores_kept a image.profile f is.boundless is.store; sent = is.output; count = subst (λ m. m ≤ f.state.instructions) (sym counts) is.instructions })

-- what the machine hears is the maker and the watchers that the job has
pub record IsHeard (a : Asked) (h : Hearing) : Type 0 where
  pub cycle : h.cycle ≡ a.supply.cycle
  pub place : h.place_before ≡ a.supply.place
  pub seen : h.seen_before ≡ a.watchers

pub ran_as : (a : Asked) (image : Image) (r : Reading) (w : Writing) (h : Hearing) (after : MachineState) (e : Ending) (n : ℕ) (c : Came) (settings : RunSettings) (m : MachineState) → c ≡ came_of e n → settings ≡ settings_for a.job image.profile → m ≡ loaded image settings →
    RunsEndSo → IsHeard a h → n ≡ after.instructions → Runs m after a.job.steps e r w h → CameTo a h.seen_now (RunsOn a image r) (IsUnread r) c w
ran_as a image r w h after e n c settings m c_is settings_is m_is ends heard counts runs =
    let final = λ (s : MachineState) (cycle : List ℕ) (place : ℕ). flat_final s.image s.settings cycle place runs.input runs.input_end a.job.steps in
    let same : m ≡ loaded image (settings_for a.job image.profile) = m_is ∙ ap (loaded image) settings_is in
    let here : ComesTo (final (loaded image (settings_for a.job image.profile)) h.cycle h.place_before) (loaded image (settings_for a.job image.profile)) after e w h =
    subst (λ s. ComesTo (final s h.cycle h.place_before) s after e w h) same runs.comes_to in
    let comes : ComesTo (final_of a image runs.input runs.input_end) (loaded image (settings_for a.job image.profile)) after e w h =
    subst (λ p. ComesTo (final (loaded image (settings_for a.job image.profile)) a.supply.cycle p) (loaded image (settings_for a.job image.profile)) after e w h) heard.place
    (subst (λ xs. ComesTo (final (loaded image (settings_for a.job image.profile)) xs h.place_before) (loaded image (settings_for a.job image.profile)) after e w h) heard.cycle here) in
    subst (λ x. CameTo a h.seen_now (RunsOn a image r) (IsUnread r) x w) (sym c_is)
    (came_as a h.seen_now (RunsWith a image runs.input runs.input_end) (RunsOn a image r) (IsUnread r) (IsUnread r) (came_of e n) w
    (λ o is. record { input = runs.input; input_end = runs.input_end; is_input = runs.is_input; is = is }) (λ unread. unread)
    (run_came a image (IsUnread r) w h after e n runs.input runs.input_end ends heard.seen counts comes))
