-- Which objects are freed and which are dead at a run's end.
use Rattle.std.proofs.Common.{◌≡◌, ◌≢◌, ℕ, zero, suc, ◌+◌, ◌-◌, ◌<◌, ◌≤◌, ◌==◌, ◌&&◌, ◌||◌, cond, inl, inr, Bool, true, false, not, nat_le, nat_lt, ℤ, ◌+ℤ◌, List, [], ◌∷◌, ◌++◌, length, map, All, Option, Some, None, is_some, if◌then◌else◌, arith, refl, sym, subst, ◌∙◌, ap}
use Rattle.std.proofs.lemmas.Bool.Decides.{nat_tests}
use Rattle.std.proofs.lemmas.List.{length-set}
use Rattle.std.proofs.lemmas.List.Elements.{All-cons, All-filter, All-head, All-nil, All-tail, All-take}
use Rattle.ob_model.specs.declared.objects.Sort.TheVariants.{Automatic, Heap}
use Rattle.ob_model.specs.declared.settings.Profile.{Profile}
use Rattle.ob_model.specs.declared.settings.Profile.TheVariants.{One, Two}
use Rattle.ob_model.specs.declared.strays.Act.TheVariants as act
use Rattle.ob_model.specs.declared.values.LoadKind.{LoadKind}
use Rattle.ob_model.specs.declared.values.Value.{Value}
use Rattle.ob_model.specs.declared.values.Value.TheVariants as value
use Rattle.ob_model.specs.Accesses.{Reach, bytes_of_kind, granule, is_aligned, is_far, is_inside, is_own, reach_if, stray_event, stray_reach}
use Rattle.ob_model.specs.Accesses as reaches
use Rattle.ob_model.specs.Bounded.{Listed, after_load, is_of, listed_cell, moved_to_front, put_first, surviving_cells, without_granule}
use Rattle.ob_model.specs.Endings.{dropped as too_many}
use Rattle.ob_model.specs.Objects.{ObjectState, live, freed, dead, is_among, is_dead_state, is_freed}
use Rattle.ob_typed.specs.TypedTree.{TypedObject}
use Rattle.ob_tree.specs.Types.{PlainStructs}
use Rattle.ob_meaning.specs.Accesses.{at, keeps, outside_cell, put_outside, reach_in, store, store_at, too_far}
use Rattle.ob_meaning.specs.Calls.{automatics, left_to}
use Rattle.ob_meaning.specs.Heap.{freed_under}
use Rattle.ob_meaning.specs.Lives.{AutomaticsAloneDie, LiveObjectsAloneCount, NoneIsFreed}
use Rattle.ob_meaning.specs.Memory.{Object, new_object, next_number, object_at, wiped, with_state, with_wiped}
use Rattle.ob_meaning.specs.Runs.{first_world, setup_of, static_object}
use Rattle.ob_meaning.specs.Setup.{Setup, function_at}
use Rattle.ob_meaning.specs.Values.{Cell, nothing, write_cell}
use Rattle.ob_meaning.specs.World.{Rule, vanish, kept, unlimited, World, Call, stop, go, end_of, told}
use Rattle.ob_meaning.proofs.Invariants.{Kept, holds_at_end}
use Rattle.ob_meaning.proofs.OutsideLists.{cell_in, is_of_key, listed_is}
use Rattle.ob_meaning.proofs.StatesOfObjects.{NoneDead, added_at, automatic_append, automatics_live, automatics_sort, changed_cases, dead_append, length_changed, live_append, sort_changed, store_sorts}
use Rattle.ob_meaning.proofs.Stores.{all_else_stays, by_target, field_same, sizes_and_lives_stay}
use Rattle.ob_meaning.proofs.Strays.{unnamed_at}

not_freed_live : live ≢ freed
not_freed_live h = absurd (cc)

not_freed_dead : dead ≢ freed
not_freed_dead h = absurd (cc)

not_dead_live : live ≢ dead
not_dead_live h = absurd (cc)

not_dead_freed : freed ≢ dead
not_dead_freed h = absurd (cc)

wiped_state : (objects : List Object) (object i : ℕ) → (object_at (with_wiped objects object) i).state ≡ (object_at objects i).state
wiped_state objects object i = field_same (λ (o : Object). o.state) objects object i (wiped (object_at objects object)) refl

wiped_sort : (objects : List Object) (object i : ℕ) → (object_at (with_wiped objects object) i).sort ≡ (object_at objects i).sort
wiped_sort objects object i = field_same (λ (o : Object). o.sort) objects object i (wiped (object_at objects object)) refl

statics_live : (structs : PlainStructs) (os : List TypedObject) (k : ℕ) → k < length (map (static_object structs) os) → (object_at (map (static_object structs) os) k).state ≡ live
statics_live structs [] k h = absurd (omega arith)
statics_live structs (o ∷ os) zero h = refl
statics_live structs (o ∷ os) (suc k) h = statics_live structs os k (omega arith)

-- ---- no object is freed under the first profile

abbrev NoFreed : List Object → Type 0
NoFreed objects = (i : ℕ) → (object_at objects i).state ≢ freed

no_freed_append : (os ms : List Object) → NoFreed os → NoFreed ms → NoFreed (os ++ ms)
no_freed_append [] ms h more i = more i
no_freed_append (o ∷ os) ms h more zero = h zero
no_freed_append (o ∷ os) ms h more (suc i) = no_freed_append os ms (λ j. h (suc j)) more i

all_live : (ms : List Object) → ((k : ℕ) → k < length ms → (object_at ms k).state ≡ live) → NoFreed ms
all_live [] each i = not_freed_dead
all_live (m ∷ ms) each zero = λ e. not_freed_live (sym (each zero (omega arith)) ∙ e)
all_live (m ∷ ms) each (suc i) = all_live ms (λ k below. each (suc k) (omega arith)) i

no_freed_deaths : (dies : ℕ → Bool) (os : List Object) → NoFreed os → NoFreed (with_state dead dies 0 os)
no_freed_deaths dies os h i e =
    elim (changed_cases dead dies 0 i os) [
      | inl same ↦ h i (sym (ap (λ (o : Object). o.state) same) ∙ e)
      | inr named ↦ not_freed_dead (sym (ap (λ (o : Object). o.state) named.1) ∙ e)
    ]

module _ (u : Setup) where
  abbrev OneHolds : List Object → List (Listed Cell) → List Call → Type 0
  OneHolds objects outside calls = NoFreed objects

  one_freed : (profile : Profile) (object : ℕ) (w : World) → profile ≡ One → NoFreed w.objects → NoFreed (freed_under profile object w).objects
  one_freed One object w is h = no_freed_deaths (λ other. other == object) w.objects h
  one_freed Two object w is h = absurd (cc)

  one_left : (calls : List Call) (w : World) → NoFreed w.objects → NoFreed (left_to u calls w).objects
  one_left [] w h = h
  one_left (c ∷ cs) w h = no_freed_deaths (is_among c.first (length (function_at u c.function).locals)) w.objects h

  one_new : (n : ℕ) → NoFreed (new_object Heap n ∷ [])
  one_new n zero = not_freed_live
  one_new n (suc i) = not_freed_dead

  abbrev one_kept : u.settings.profile ≡ One → Kept u OneHolds
  one_kept is =
      record {
        uses = λ object g w h. h;
        stores = λ kind line p d v w h i e. h i (sym (sizes_and_lives_stay u.rule kind line i p v d w).1 ∙ e);
        frees = λ object offset w known test h. one_freed u.settings.profile object w is h;
        allocates = λ n w h. no_freed_append w.objects (new_object Heap n ∷ []) h (one_new n);
        clears = λ object w h i e. h i (sym (wiped_state w.objects object i) ∙ e);
        enters = λ f arguments w h.
            let made : List Object = automatics u.program.structs (function_at u f).locals arguments in
            no_freed_append w.objects made h (all_live made (automatics_live u.program.structs (function_at u f).locals arguments));
        leaves = λ w h. one_left w.calls w h;
      }

  first_none : (place : ℕ) (input : List ℕ) (steps : ℕ) → NoFreed (first_world u place input steps).objects
  first_none place input steps zero = not_freed_dead
  first_none place input steps (suc i) =
      all_live (map (static_object u.program.structs) u.program.statics) (statics_live u.program.structs u.program.statics) i

pub none_is_freed : NoneIsFreed
none_is_freed program rule settings cycle place input input_end steps object is =
    let u : Setup = setup_of program rule settings cycle input_end in
    holds_at_end u (OneHolds u) (one_kept u is) place input steps (first_none u place input steps) object

-- ---- granules outside are those of live objects

abbrev IsLive : List Object → Listed Cell → Type 0
IsLive objects e = (object_at objects e.object).state ≡ live

all_others : (P Q : Listed Cell → Type 0) (es : List (Listed Cell)) → ((e : Listed Cell) → P e → Q e) → All P es → All Q es
all_others P Q [] more all = All-nil Q
all_others P Q (e ∷ es) more all =
    All-cons Q e es (more e (All-head P e es all)) (all_others P Q es more (All-tail P e es all))

listed_live : (os : List Object) (o : ℕ) (g : ℤ) (es : List (Listed Cell)) (c : Cell) → All (IsLive os) es → cell_in o g es ≡ Some c → (object_at os o).state ≡ live
listed_live os o g [] c all h = absurd (cc)
listed_live os o g (e ∷ es) c all h = by_test (is_of o g e) refl h (listed_live os o g es c (All-tail (IsLive os) e es all))
  where
    by_test : (b : Bool) → is_of o g e ≡ b → cond b (Some e.cell) (cell_in o g es) ≡ Some c → (cell_in o g es ≡ Some c → (object_at os o).state ≡ live) → (object_at os o).state ≡ live
    by_test true t h ih =
        subst (λ (i : ℕ). (object_at os i).state ≡ live) (is_of_key o g e t).0 (All-head (IsLive os) e es all)
    by_test false t h ih = ih h

used_live : (os : List Object) (o : ℕ) (g : ℤ) (es : List (Listed Cell)) → All (IsLive os) es → All (IsLive os) (after_load o g es)
used_live os o g es all = by_cell (listed_cell o g es) (sym (listed_is o g es))
  where
    by_cell : (c : Option Cell) → cell_in o g es ≡ c → All (IsLive os) (moved_to_front c o g es)
    by_cell None h = all
    by_cell (Some c) h =
        All-cons (IsLive os) (record { object = o; granule = g; cell = c }) (without_granule o g es) (listed_live os o g es c all h) (All-filter (λ e. not (is_of o g e)) (IsLive os) es all)

put_live : (os : List Object) (o : ℕ) (g : ℤ) (cell : Cell) (es : List (Listed Cell)) → (object_at os o).state ≡ live → All (IsLive os) es → All (IsLive os) (put_first o g cell es)
put_live os o g cell es h all =
    All-cons (IsLive os) (record { object = o; granule = g; cell = cell }) (without_granule o g es) h (All-filter (λ e. not (is_of o g e)) (IsLive os) es all)

outside_live : (rule : Rule) (line o : ℕ) (g : ℤ) (cell : Cell) (w : World) → (object_at w.objects o).state ≡ live → All (IsLive w.objects) w.outside → All (IsLive w.objects) (end_of (put_outside rule line o g cell w)).outside
outside_live vanish line o g cell w h all = all
outside_live (kept cap) line o g cell w h all =
    All-take (IsLive w.objects) cap (put_first o g cell w.outside) (put_live w.objects o g cell w.outside h all)
outside_live (unlimited cap) line o g cell w h all = by_test (is_some (listed_cell o g w.outside) || nat_lt (length w.outside) cap)
  where
    by_test : (b : Bool) → All (IsLive w.objects) (end_of (if b then go nothing (record w { outside = put_first o g cell w.outside }) else stop (too_many line) w)).outside
    by_test true = put_live w.objects o g cell w.outside h all
    by_test false = all

-- an object that is reached outside of its granules is live
reached_live : (state : ObjectState) (keeps aligned inside own : Bool) → is_dead_state state ≡ false → reaches.outside ≡ reach_if (is_freed state || not (aligned && inside)) (stray_reach (keeps && (not (is_freed state) && aligned)) own) → state ≡ live
reached_live live keeps aligned inside own known is = refl
reached_live freed true aligned inside own known is = absurd (cc)
reached_live freed false aligned inside own known is = absurd (cc)
reached_live dead keeps aligned inside own known is = absurd (cc)

-- what a store keeps outside, by the objects before it
store_live : (rule : Rule) (kind : LoadKind) (line object : ℕ) (o : ℤ) (r : Reach) (v : Value) (w : World) → is_dead_state (object_at w.objects object).state ≡ false → r ≡ reach_in rule (object_at w.objects object) o (bytes_of_kind kind) → All (IsLive w.objects) w.outside → All (IsLive w.objects) (end_of (store_at (at object o r) rule kind line v w)).outside
store_live rule kind line object o reaches.inside v w known is all = all
store_live rule kind line object o reaches.own v w known is all = all
store_live rule kind line object o reaches.outside v w known is all =
    let x : Object = object_at w.objects object in
    outside_live rule line object (granule o) (write_cell kind o v (outside_cell w object (granule o))) (told (stray_event line act.Store object o (bytes_of_kind kind)) w) (reached_live x.state (keeps rule) (is_aligned o (bytes_of_kind kind)) (is_inside x.size o (bytes_of_kind kind)) (is_own x.size o) known is) all
store_live rule kind line object o reaches.vanishing v w known is all = all

null_live : (far : Bool) (rule : Rule) (kind : LoadKind) (line : ℕ) (d : ℤ) (v : Value) (w : World) → All (IsLive w.objects) w.outside → All (IsLive w.objects) (end_of (store_at (if far then too_far else at 0 d reaches.vanishing) rule kind line v w)).outside
null_live true rule kind line d v w all = all
null_live false rule kind line d v w all = all

stored_live : (rule : Rule) (kind : LoadKind) (line : ℕ) (p : Value) (d : ℤ) (v : Value) (w : World) → All (IsLive w.objects) w.outside → All (IsLive w.objects) (end_of (store rule kind line p d v w)).outside
stored_live rule kind line (value.Ptr object offset) d v w all =
    by_target (λ t. All (IsLive w.objects) (end_of (store_at t rule kind line v w)).outside) rule w object offset d (bytes_of_kind kind) all all (λ known. store_live rule kind line object (offset +ℤ d) (reach_in rule (object_at w.objects object) (offset +ℤ d) (bytes_of_kind kind)) v w known refl all)
stored_live rule kind line value.Null d v w all = null_live (is_far d) rule kind line d v w all
stored_live rule kind line (value.Num n) d v w all = null_live (is_far d) rule kind line d v w all

-- what is left outside once objects have come into a state
surviving_live : (state : ObjectState) (named : ℕ → Bool) (os : List Object) (es : List (Listed Cell)) → All (IsLive os) es → All (IsLive (with_state state named 0 os)) (surviving_cells named es)
surviving_live state named os [] all = All-nil (IsLive (with_state state named 0 os))
surviving_live state named os (e ∷ es) all = by_test (named e.object) refl (surviving_live state named os es (All-tail (IsLive os) e es all))
  where
    by_test : (b : Bool) → named e.object ≡ b → All (IsLive (with_state state named 0 os)) (surviving_cells named es) → All (IsLive (with_state state named 0 os)) (cond (not b) (e ∷ surviving_cells named es) (surviving_cells named es))
    by_test true t ih = ih
    by_test false t ih =
        let same = unnamed_at state named 0 e.object os (subst (λ (m : ℕ). named m ≡ false) (omega arith) t) in
        All-cons (IsLive (with_state state named 0 os)) e (surviving_cells named es) (ap (λ (o : Object). o.state) same ∙ All-head (IsLive os) e es all) ih

module _ (u : Setup) where
  abbrev LiveHolds : List Object → List (Listed Cell) → List Call → Type 0
  LiveHolds objects outside calls = All (IsLive objects) outside

  live_freed : (profile : Profile) (object : ℕ) (w : World) → All (IsLive w.objects) w.outside → All (IsLive (freed_under profile object w).objects) (freed_under profile object w).outside
  live_freed One object w h = surviving_live dead (λ other. other == object) w.objects w.outside h
  live_freed Two object w h = surviving_live freed (λ other. other == object) w.objects w.outside h

  live_left : (calls : List Call) (w : World) → All (IsLive w.objects) w.outside → All (IsLive (left_to u calls w).objects) (left_to u calls w).outside
  live_left [] w h = h
  live_left (c ∷ cs) w h = surviving_live dead (is_among c.first (length (function_at u c.function).locals)) w.objects w.outside h

  abbrev live_kept : Kept u LiveHolds
  live_kept =
      record {
        uses = λ object g w h. used_live w.objects object g w.outside h;
        stores = λ kind line p d v w h.
            let after : World = end_of (store u.rule kind line p d v w) in
            all_others (IsLive w.objects) (IsLive after.objects) after.outside (λ e alive. (sizes_and_lives_stay u.rule kind line e.object p v d w).1 ∙ alive) (stored_live u.rule kind line p d v w h);
        frees = λ object offset w known test h. live_freed u.settings.profile object w h;
        allocates = λ n w h.
            let made : List Object = new_object Heap n ∷ [] in
            all_others (IsLive w.objects) (IsLive (w.objects ++ made)) w.outside (λ e alive. live_append w.objects made e.object alive) h;
        clears = λ object w h.
            all_others (IsLive w.objects) (IsLive (with_wiped w.objects object)) w.outside (λ e alive. wiped_state w.objects object e.object ∙ alive) h;
        enters = λ f arguments w h.
            let made : List Object = automatics u.program.structs (function_at u f).locals arguments in
            all_others (IsLive w.objects) (IsLive (w.objects ++ made)) w.outside (λ e alive. live_append w.objects made e.object alive) h;
        leaves = λ w h. live_left w.calls w h;
      }

pub live_alone_count : LiveObjectsAloneCount
live_alone_count program rule settings cycle place input input_end steps =
    let u : Setup = setup_of program rule settings cycle input_end in
    holds_at_end u (LiveHolds u) (live_kept u) place input steps (All-nil (IsLive (first_world u place input steps).objects))

-- ---- automatic objects alone die under the second profile

abbrev DeadAreAutomatic : List Object → Type 0
DeadAreAutomatic objects =
    (i : ℕ) → 0 < i → i < length objects → (object_at objects i).state ≡ dead → (object_at objects i).sort ≡ Automatic

module _ (u : Setup) where
  -- the objects of a call in progress
  abbrev AreItsOwn : List Object → Call → Type 0
  AreItsOwn objects c =
      (i : ℕ) → is_among c.first (length (function_at u c.function).locals) i ≡ true → (object_at objects i).sort ≡ Automatic

  abbrev OwnAll : List Object → List Call → Type 0
  OwnAll objects [] = Unit {0}
  OwnAll objects (c ∷ cs) = AreItsOwn objects c × OwnAll objects cs

  own_others : (os after : List Object) (cs : List Call) → ((i : ℕ) → (object_at os i).sort ≡ Automatic → (object_at after i).sort ≡ Automatic) → OwnAll os cs → OwnAll after cs
  own_others os after [] more h = tt
  own_others os after (c ∷ cs) more h = (λ i among. more i (h.0 i among), own_others os after cs more h.1)

  abbrev TwoHolds : List Object → List (Listed Cell) → List Call → Type 0
  TwoHolds objects outside calls = DeadAreAutomatic objects × OwnAll objects calls

  -- where states, sorts and the count stay
  two_same : (os after : List Object) (cs : List Call) → ((i : ℕ) → (object_at after i).state ≡ (object_at os i).state) → ((i : ℕ) → (object_at after i).sort ≡ (object_at os i).sort) → length after ≡ length os → DeadAreAutomatic os × OwnAll os cs → DeadAreAutomatic after × OwnAll after cs
  two_same os after cs states sorts count h = (
    λ i some made is. sorts i ∙ h.0 i some (omega (arith, made, count)) (sym (states i) ∙ is),
    own_others os after cs (λ i is. sorts i ∙ is) h.1,
  )

  two_added : (os ms : List Object) (cs : List Call) → NoneDead ms → DeadAreAutomatic os × OwnAll os cs → DeadAreAutomatic (os ++ ms) × OwnAll (os ++ ms) cs
  two_added os ms cs none h = (
    λ i some made is. let before = dead_append os ms i none made is in sym before.2 ∙ h.0 i some before.0 before.1,
    own_others os (os ++ ms) cs (automatic_append os ms) h.1,
  )

  two_freed : (profile : Profile) (object : ℕ) (w : World) → profile ≡ Two → DeadAreAutomatic w.objects × OwnAll w.objects w.calls → DeadAreAutomatic (freed_under profile object w).objects × OwnAll (freed_under profile object w).objects (freed_under profile object w).calls
  two_freed One object w is h = absurd (cc)
  two_freed Two object w is h =
      let named = λ (other : ℕ). other == object in (
        λ i some made e.
            let within : i < length w.objects = omega (arith, made, length_changed freed named 0 w.objects) in
            elim (changed_cases freed named 0 i w.objects) [
              | inl same ↦ ap (λ (o : Object). o.sort) same ∙ h.0 i some within (sym (ap (λ (o : Object). o.state) same) ∙ e)
              | inr changed ↦ absurd (not_dead_freed (sym (ap (λ (o : Object). o.state) changed.1) ∙ e))
            ],
        own_others w.objects (with_state freed named 0 w.objects) w.calls (λ i is. sort_changed freed named i w.objects ∙ is) h.1,
      )

  two_left : (calls : List Call) (w : World) → w.calls ≡ calls → DeadAreAutomatic w.objects × OwnAll w.objects w.calls → DeadAreAutomatic (left_to u calls w).objects × OwnAll (left_to u calls w).objects (left_to u calls w).calls
  two_left [] w is h = h
  two_left (c ∷ cs) w is h =
      let own : OwnAll w.objects (c ∷ cs) = subst (λ (x : List Call). OwnAll w.objects x) is h.1 in
      let dies = is_among c.first (length (function_at u c.function).locals) in (
        λ i some made e.
            let within : i < length w.objects = omega (arith, made, length_changed dead dies 0 w.objects) in
            elim (changed_cases dead dies 0 i w.objects) [
              | inl same ↦ ap (λ (o : Object). o.sort) same ∙ h.0 i some within (sym (ap (λ (o : Object). o.state) same) ∙ e)
              | inr changed ↦ ap (λ (o : Object). o.sort) changed.1 ∙ own.0 i (subst (λ (m : ℕ). dies m ≡ true) (omega arith) changed.0)
            ],
        own_others w.objects (with_state dead dies 0 w.objects) cs (λ i is. sort_changed dead dies i w.objects ∙ is) own.1,
      )

  -- a call's own objects are those that its entry adds
  entered_own : (f : ℕ) (arguments : List Value) (os : List Object) → AreItsOwn (os ++ automatics u.program.structs (function_at u f).locals arguments) (record { function = f; first = next_number os })
  entered_own f arguments os i among =
      let count : ℕ = length (function_at u f).locals in
      let made : List Object = automatics u.program.structs (function_at u f).locals arguments in
      let tests = both (nat_le (length os) i) (nat_lt i (length os + count)) among in
      let from : length os ≤ i = grind (arith, nat_tests, tests.0) in
      let below : i < length os + count = grind (arith, nat_tests, tests.1) in
      let k : ℕ = i - length os in
      subst (λ (m : ℕ). (object_at (os ++ made) m).sort ≡ Automatic) (omega (arith, from)) (ap (λ (o : Object). o.sort) (added_at os made k) ∙ automatics_sort u.program.structs (function_at u f).locals arguments k (omega (arith, from, below)))
    where
      both : (a b : Bool) → (a && b) ≡ true → (a ≡ true) × (b ≡ true)
      both true b h = (refl, h)
      both false b h = absurd (cc)

  new_live : (n : ℕ) → NoneDead (new_object Heap n ∷ [])
  new_live n zero below = not_dead_live
  new_live n (suc k) below = absurd (omega arith)

  made_live : (f : ℕ) (arguments : List Value) → NoneDead (automatics u.program.structs (function_at u f).locals arguments)
  made_live f arguments k below e =
      not_dead_live (sym (automatics_live u.program.structs (function_at u f).locals arguments k below) ∙ e)

  abbrev two_kept : u.settings.profile ≡ Two → Kept u TwoHolds
  two_kept is =
      record {
        uses = λ object g w h. h;
        stores = λ kind line p d v w h.
            let after : World = end_of (store u.rule kind line p d v w) in
            let same : after.calls ≡ w.calls = ap (λ (x : World). x.calls) (all_else_stays u.rule kind line p v d w) in
            subst (λ (cs : List Call). DeadAreAutomatic after.objects × OwnAll after.objects cs) (sym same) (two_same w.objects after.objects w.calls (λ i. (sizes_and_lives_stay u.rule kind line i p v d w).1) (λ i. (store_sorts u.rule kind line i p v d w).0) (store_sorts u.rule kind line 0 p v d w).1 h);
        frees = λ object offset w known test h. two_freed u.settings.profile object w is h;
        allocates = λ n w h. two_added w.objects (new_object Heap n ∷ []) w.calls (new_live n) h;
        clears = λ object w h.
            two_same w.objects (with_wiped w.objects object) w.calls (wiped_state w.objects object) (wiped_sort w.objects object) (length-set w.objects object (wiped (object_at w.objects object))) h;
        enters = λ f arguments w h.
            let made : List Object = automatics u.program.structs (function_at u f).locals arguments in
            let added = two_added w.objects made w.calls (made_live f arguments) h in
            (added.0, (entered_own f arguments w.objects, added.1));
        leaves = λ w h. two_left w.calls w refl h;
      }

  first_dead : (place : ℕ) (input : List ℕ) (steps : ℕ) → DeadAreAutomatic (first_world u place input steps).objects
  first_dead place input steps zero some made is = absurd (omega arith)
  first_dead place input steps (suc i) some made is =
      absurd (not_dead_live (sym (statics_live u.program.structs u.program.statics i (omega arith)) ∙ is))

pub automatics_alone_die : AutomaticsAloneDie
automatics_alone_die program rule settings cycle place input input_end steps object is made e =
    let u : Setup = setup_of program rule settings cycle input_end in
    (holds_at_end u (TwoHolds u) (two_kept u is) place input steps (first_dead u place input steps, tt)).0 object made.0 made.1 e
