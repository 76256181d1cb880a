-- What a job came to, by its command, and that it was answered.
use Rattle.std.proofs.Common.{◌≡◌, ℕ, zero, suc, ◌<◌, Bool, true, false, List, [], ◌∷◌, length, get_or, map, refl, sym, ap, ◌∙◌, subst, arith}
use Rattle.std.specs.Prelude.{slice_index_or}
use Rattle.ob_base.specs.Devices.{Loading, Reading, Writing, IsUnwritten}
use Rattle.std.proofs.lemmas.List.{length-map}
use Rattle.ob_watch.specs.Watching.{Watch}
use Rattle.ob_settings.specs.Jobs.{ArgumentsStandThere, AsksForJob, IsJobFor, IsJobOf, IsUsageFor}
use Rattle.ob_settings.specs.declared.job.Job.{Job}
use Rattle.ob_settings.specs.declared.job.WordsFault.{WordsFault}
use Rattle.ob_settings.specs.declared.job.WordsFault.TheVariants as words_fault
use Rattle.ob_settings.specs.declared.verb.Verb.{Verb}
use Rattle.ob_settings.specs.declared.verb.Verb.TheVariants as verb
use Rattle.ob_commands.specs.declared.answer.Answer.TheVariants.{NotYet}
use Rattle.ob_commands.specs.declared.came.Came.{Came}
use Rattle.ob_commands.specs.declared.came.Came.TheVariants.{Due}
use Rattle.ob_commands.specs.Parts.{Asked, Supply, asked, no_supply}
use Rattle.ob_commands.specs.Top.{Answers, ComesOf, Devices, Handed, IsIdle}
use Rattle.ob_commands.specs.Delivery.{CameTo, Delivered, TakesMaker}
use Rattle.ob_commands.proofs.Coming.{why}
use Rattle.ob_commands.proofs.Delivering.{helpless_answers, job_answers, usage_answers}
use Rattle.ob_commands.proofs.Makers.{maker_there}
use Rattle.ob_program.specs.Language.{language}
use Rattle.ob_program.specs.Refusals.{came_of_fault, runs}

-- ---- by its command

-- what a job came to with the command that it has
pub as_verb : (v x : Verb) (a : Asked) (seen : List Watch) (l : Loading) (r : Reading) (c : Came) (w : Writing) → v ≡ x → CameTo a seen (λ o. ComesOf language x a l r o) (IsIdle l r) c w →
    CameTo a seen (λ o. ComesOf language v a l r o) (IsIdle l r) c w
as_verb v x a seen l r c w is it = subst (λ y. CameTo a seen (λ o. ComesOf language y a l r o) (IsIdle l r) c w) (sym is) it

pub alone : (v : Verb) → (v ≡ verb.Run → ⊥) → (v ≡ verb.Exec → ⊥) → runs v ≡ false
alone verb.Run run exec = absurd (run refl)
alone verb.Exec run exec = absurd (exec refl)
alone verb.Compile run exec = refl
alone verb.Check run exec = refl
alone verb.Audit run exec = refl
alone verb.Sample run exec = refl
alone verb.Migrate run exec = refl

never : (b : Bool) → true ≡ false → ⊥
never b is = cc

-- commands that aren't there yet
pub later : (a : Asked) (seen : List Watch) (l : Loading) (r : Reading) (w : Writing) (v : Verb) → runs v ≡ false → (v ≡ verb.Check → ⊥) → (v ≡ verb.Migrate → ⊥) → IsIdle l r → IsUnwritten w →
    CameTo a seen (λ o. ComesOf language v a l r o) (IsIdle l r) (Due NotYet 0) w
later a seen l r w verb.Run none check other idle quiet = absurd (never true none)
later a seen l r w verb.Exec none check other idle quiet = absurd (never true none)
later a seen l r w verb.Migrate none check other idle quiet = absurd (other refl)
later a seen l r w verb.Check none check other idle quiet = absurd (check refl)
later a seen l r w verb.Compile none check other idle quiet = why a seen _ NotYet 0 w refl quiet refl (record { idle = idle; is = refl })
later a seen l r w verb.Audit none check other idle quiet = why a seen _ NotYet 0 w refl quiet refl (record { idle = idle; is = refl })
later a seen l r w verb.Sample none check other idle quiet = why a seen _ NotYet 0 w refl quiet refl (record { idle = idle; is = refl })

takes_maker : (v : Verb) → runs v ≡ true → TakesMaker v
takes_maker verb.Run is = tt
takes_maker verb.Exec is = tt
takes_maker verb.Compile is = absurd (never true (sym is))
takes_maker verb.Check is = absurd (never true (sym is))
takes_maker verb.Audit is = tt
takes_maker verb.Sample is = tt
takes_maker verb.Migrate is = absurd (never true (sym is))

-- the maker of a job that runs something is there
pub maker_inside : (job : Job) (makers : ℕ) (words : List (List ℕ)) → IsJobFor makers words job → runs job.verb ≡ true → job.maker < makers
maker_inside job makers words asks is = maker_there job makers (takes_maker job.verb is) asks.maker

-- ---- the argument's word, and the maker

item_at : {S T : Type 0} (f : S → T) (items : List S) (k : ℕ) (w : S) (d : T) → k < length items → w ≡ get_or items k w → f w ≡ get_or (map f items) k d
item_at f [] k w d inside is = absurd (omega arith)
item_at f (x ∷ items) zero w d inside is = ap f is
item_at f (x ∷ items) (suc k) w d inside is = item_at f items k w d (omega arith) is

pub named : {S : Type 0} (f : S → List ℕ) (items : List S) (job : Job) (w : S) (name : List ℕ) → ArgumentsStandThere → IsJobOf (map f items) job → name ≡ f w → w ≡ get_or items job.at w → name ≡ job.argument
named f items job w name places asked name_is is =
    let there = places (map f items) job asked in
    let inside : job.at < length items = subst (λ n. job.at < n) (length-map items f) there.0 in
    name_is ∙ item_at f items job.at w [] inside is ∙ there.1

-- ---- answers

-- a job that was answered, by what it came to
pub answered : {M : Type 0} (f : M → Supply) (makers : List M) (count : ℕ) (words : List (List ℕ)) (watchers seen : List Watch) (d : Devices) (job : Job) (c : Came) (s k : ℕ) (name : List ℕ) →
    count ≡ length makers → IsJobFor count words job → name ≡ job.argument →
    CameTo (asked job (map f makers) watchers) seen (λ o. ComesOf language job.verb (asked job (map f makers) watchers) d.folder d.input o) (IsIdle d.folder d.input) c d.out → Delivered name job.report seen c d.err s k →
    Answers language (record { words = words; makers = map f makers; watchers = watchers }) d s k
answered f makers count words watchers seen d job c s k name count_is asks named_so came told =
    let h : Handed = record { words = words; makers = map f makers; watchers = watchers } in
    let asks_here : IsJobFor (length h.makers) words job = subst (λ n. IsJobFor n words job) (count_is ∙ sym (length-map makers f)) asks in
    job_answers language h d job seen c s k asks_here came (subst (λ n. Delivered n job.report seen c d.err s k) named_so told)

-- with its maker
pub answered_with : {M : Type 0} (f : M → Supply) (makers : List M) (count at : ℕ) (maker : M) (words : List (List ℕ)) (watchers seen : List Watch) (d : Devices) (job : Job) (c : Came) (s k : ℕ) (name : List ℕ) →
    count ≡ length makers → IsJobFor count words job → name ≡ job.argument → at ≡ job.maker → at < length makers → maker ≡ get_or makers at maker →
    CameTo (record { job = job; supply = f maker; watchers = watchers }) seen (λ o. ComesOf language job.verb (record { job = job; supply = f maker; watchers = watchers }) d.folder d.input o) (IsIdle d.folder d.input) c d.out →
    Delivered name job.report seen c d.err s k → Answers language (record { words = words; makers = map f makers; watchers = watchers }) d s k
answered_with f makers count at maker words watchers seen d job c s k name count_is asks named_so at_is inside is came told =
    let supply_is : f maker ≡ slice_index_or (map f makers) job.maker no_supply = item_at f makers at maker no_supply inside is ∙ ap (λ n. slice_index_or (map f makers) n no_supply) at_is in
    answered f makers count words watchers seen d job c s k name count_is asks named_so
    (subst (λ supply. let a : Asked = record { job = job; supply = supply; watchers = watchers } in CameTo a seen (λ o. ComesOf language job.verb a d.folder d.input o) (IsIdle d.folder d.input) c d.out) supply_is came) told

-- words that ask for none, or for one for which there is no memory
pub refused_words : {M : Type 0} (f : M → Supply) (makers : List M) (count : ℕ) (words : List (List ℕ)) (watchers seen : List Watch) (d : Devices) (fault : WordsFault) (s k : ℕ) →
    count ≡ length makers → (fault ≡ words_fault.Usage → IsUsageFor count words) → (fault ≡ words_fault.NoMemory → AsksForJob words) → IsIdle d.folder d.input → IsUnwritten d.out →
    Delivered [] false seen (came_of_fault fault) d.err s k → Answers language (record { words = words; makers = map f makers; watchers = watchers }) d s k
refused_words f makers count words watchers seen d words_fault.Usage s k count_is usage asks idle quiet told =
    usage_answers language (record { words = words; makers = map f makers; watchers = watchers }) d seen s k
    (subst (λ n. IsUsageFor n words) (count_is ∙ sym (length-map makers f)) (usage refl)) idle quiet told
refused_words f makers count words watchers seen d words_fault.NoMemory s k count_is usage asks idle quiet told =
    helpless_answers language (record { words = words; makers = map f makers; watchers = watchers }) d seen s k (asks refl) idle quiet told
