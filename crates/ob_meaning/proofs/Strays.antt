-- What stray accesses do, and what the deaths of objects take away.
use Rattle.std.proofs.Common.{◌≡◌, ℕ, zero, suc, ◌+◌, ◌<◌, ◌≤◌, ◌==◌, Bool, true, false, not, ◌&&◌, ◌||◌, nat_lt, ℤ, pos, ◌+ℤ◌, List, [], ◌∷◌, length, Option, None, if◌then◌else◌, arith, eq-eqb, refl, sym, subst, ◌∙◌, ap}
use Rattle.std.proofs.lemmas.Bool.Decides.{nat_tests}
use Rattle.std.proofs.lemmas.List.{get_or_past}
use Rattle.std.proofs.lemmas.List.Sums.{length-filter}
use Rattle.ob_words.specs.declared.types.Relation.{Relation}
use Rattle.ob_words.specs.declared.types.Relation.TheVariants as relation
use Rattle.ob_model.specs.declared.objects.Sort.{Sort}
use Rattle.ob_model.specs.declared.objects.Sort.TheVariants.{Heap}
use Rattle.ob_model.specs.declared.settings.Profile.{Profile}
use Rattle.ob_model.specs.declared.settings.Profile.TheVariants.{One, Two}
use Rattle.ob_model.specs.declared.strays.Act.TheVariants as act
use Rattle.ob_model.specs.declared.values.LoadKind.{LoadKind}
use Rattle.ob_model.specs.declared.values.Value.{Value}
use Rattle.ob_model.specs.declared.values.Value.TheVariants as value
use Rattle.ob_model.specs.Accesses.{Reach, bytes_of_kind, granule, is_aligned, is_far, is_own, reach, reach_if, stray_reach}
use Rattle.ob_model.specs.Accesses as reaches
use Rattle.ob_model.specs.Bounded.{surviving_cells}
use Rattle.ob_model.specs.Objects.{ObjectState, live, freed, dead, frees, is_dead_state, is_freed}
use Rattle.ob_model.specs.Pointers.{is_null}
use Rattle.ob_model.proofs.Astray.{freed_vanish, strays_vanish}
use Rattle.ob_meaning.specs.Accesses.{Target, dead_object, too_far, at, keeps, load_at, or_made, reach_in, store_at, target}
use Rattle.ob_meaning.specs.Heap.{free, free_known, frees_it}
use Rattle.ob_meaning.specs.Memory.{Object, changed_if, is_dead, no_object, object_at, with_state}
use Rattle.ob_meaning.specs.MemoryLaws.{FirstByteIsFreed, FreedAgainIsTold, FreedLoadsTakeOne, FreedStaysKnown, FreedStoresVanish, GoesAstray, GoesOutside, GranulesOfTheDeadDoNotCount, GranulesOfTheDeadLeave, GranulesOfTheFreedLeave, KnownAreCompared, KnownAreMoved, KnownAreSubtracted, NamedAreDead, OthersStayAsTheyAre, Reaches, ReachesFreed, SetBytesTakeNone, StrayLoadsTakeOne, StrayStoresVanish, UnsetByteTakesOne, event_of, is_astray}
use Rattle.ob_meaning.specs.Pointers.{one_is_dead, uses_dead}
use Rattle.ob_meaning.specs.World.{Rule, vanish, unlimited, World, told}
use Rattle.ob_meaning.proofs.OutsideLists.{cell_in, cond_false, cond_true, listed_is}
use Rattle.ob_meaning.proofs.SameMaps.{cell-surviving}

-- ---- where an access goes

tests_pass : (a b c : Bool) (t : Target) → a ≡ false → b ≡ false → c ≡ false → (if a then dead_object else (if b then too_far else (if c then too_far else t))) ≡ t
tests_pass false false false t h i j = refl
tests_pass false false true t h i j = absurd (cc)
tests_pass false true c t h i j = absurd (cc)
tests_pass true b c t h i j = absurd (cc)

pub target_is : (rule : Rule) (w : World) (object : ℕ) (offset d : ℤ) (k : ℕ) → Reaches w object offset d → target rule w.objects (value.Ptr object offset) d k ≡ at object (offset +ℤ d) (reach_in rule (object_at w.objects object) (offset +ℤ d) k)
target_is rule w object offset d k h =
    tests_pass (is_dead_state (object_at w.objects object).state) (is_far d) (is_far (offset +ℤ d)) (at object (offset +ℤ d) (reach_in rule (object_at w.objects object) (offset +ℤ d) k)) h.known h.near h.near_offset

vanishes : (w : World) (object : ℕ) (offset d : ℤ) (kind : LoadKind) → Reaches w object offset d → GoesAstray kind w object (offset +ℤ d) → target vanish w.objects (value.Ptr object offset) d (bytes_of_kind kind) ≡ at object (offset +ℤ d) reaches.vanishing
vanishes w object offset d kind h astray =
    let o : Object = object_at w.objects object in
    target_is vanish w object offset d (bytes_of_kind kind) h
    ∙ ap (at object (offset +ℤ d)) (strays_vanish (is_freed o.state) o.size (offset +ℤ d) (bytes_of_kind kind) astray)

pub stray_stores_vanish : StrayStoresVanish
stray_stores_vanish kind line object offset d v w h astray =
    ap (λ (t : Target). store_at t vanish kind line v w) (vanishes w object offset d kind h astray)

pub stray_loads_take_one : StrayLoadsTakeOne
stray_loads_take_one cycle kind line object offset d w h astray =
    ap (λ (t : Target). load_at t vanish cycle kind line w) (vanishes w object offset d kind h astray)

-- through a freed object's pointer
freed_target : (rule : Rule) (w : World) (object : ℕ) (offset d : ℤ) (kind : LoadKind) → ReachesFreed w object offset d → target rule w.objects (value.Ptr object offset) d (bytes_of_kind kind) ≡ at object (offset +ℤ d) reaches.vanishing
freed_target rule w object offset d kind h =
    let o : Object = object_at w.objects object in
    let reached : Reaches w object offset d = record { known = ap is_dead_state h.state; near = h.near; near_offset = h.near_offset } in
    target_is rule w object offset d (bytes_of_kind kind) reached
    ∙ ap (at object (offset +ℤ d)) (ap (λ (b : Bool). reach (keeps rule) b o.size (offset +ℤ d) (bytes_of_kind kind)) (ap is_freed h.state) ∙ freed_vanish (keeps rule) o.size (offset +ℤ d) (bytes_of_kind kind))

pub freed_stores_vanish : FreedStoresVanish
freed_stores_vanish rule kind line object offset d v w h =
    ap (λ (t : Target). store_at t rule kind line v w) (freed_target rule w object offset d kind h)

pub freed_loads_take_one : FreedLoadsTakeOne
freed_loads_take_one rule cycle kind line object offset d w h =
    ap (λ (t : Target). load_at t rule cycle kind line w) (freed_target rule w object offset d kind h)

outside_reach : (freed astray aligned its_own : Bool) → freed ≡ false → astray ≡ true → aligned ≡ true → its_own ≡ false → reach_if astray (stray_reach (true && (not freed && aligned)) its_own) ≡ reaches.outside
outside_reach false true true false f h i j = refl
outside_reach false true true true f h i j = absurd (cc)
outside_reach false true false its_own f h i j = absurd (cc)
outside_reach false false aligned its_own f h i j = absurd (cc)
outside_reach true astray aligned its_own f h i j = absurd (cc)

pub goes_outside : (cap : ℕ) (w : World) (object : ℕ) (offset d : ℤ) (kind : LoadKind) → Reaches w object offset d → GoesOutside kind w object (offset +ℤ d) → target (unlimited cap) w.objects (value.Ptr object offset) d (bytes_of_kind kind) ≡ at object (offset +ℤ d) reaches.outside
goes_outside cap w object offset d kind h out =
    let o : Object = object_at w.objects object in
    target_is (unlimited cap) w object offset d (bytes_of_kind kind) h
    ∙ ap (at object (offset +ℤ d)) (outside_reach (is_freed o.state) (is_astray kind o (offset +ℤ d)) (is_aligned (offset +ℤ d) (bytes_of_kind kind)) (is_own o.size (offset +ℤ d)) out.live out.astray out.aligned out.outside)

pub unset_byte_takes_one : UnsetByteTakesOne
unset_byte_takes_one cap cycle kind line object offset d w h out none =
    ap (λ (t : Target). load_at t (unlimited cap) cycle kind line w) (goes_outside cap w object offset d kind h out)
    ∙ ap (λ (c : Option Value). or_made c cycle kind (told (event_of act.Load kind line object (offset +ℤ d)) w)) none

pub set_bytes_take_none : SetBytesTakeNone
set_bytes_take_none cap cycle kind line object offset d v w h out found =
    ap (λ (t : Target). load_at t (unlimited cap) cycle kind line w) (goes_outside cap w object offset d kind h out)
    ∙ ap (λ (c : Option Value). or_made c cycle kind (told (event_of act.Load kind line object (offset +ℤ d)) w)) found

-- ---- deaths

dead_changed : (named : Bool) (o : Object) → (changed_if named dead o).state ≡ (if named then dead else o.state)
dead_changed true o = refl
dead_changed false o = refl

none_dead : (b : Bool) → dead ≡ (if b then dead else dead)
none_dead true = refl
none_dead false = refl

deaths_at : (dies : ℕ → Bool) (n i : ℕ) (os : List Object) → (object_at (with_state dead dies n os) i).state ≡ (if dies (n + i) then dead else (object_at os i).state)
deaths_at dies n i [] = none_dead (dies (n + i))
deaths_at dies n zero (o ∷ os) =
    subst (λ (m : ℕ). (changed_if (dies n) dead o).state ≡ (if dies m then dead else o.state)) (omega arith) (dead_changed (dies n) o)
deaths_at dies n (suc i) (o ∷ os) =
    subst (λ (m : ℕ). (object_at (with_state dead dies (n + 1) os) i).state ≡ (if dies m then dead else (object_at os i).state)) (omega arith) (deaths_at dies (n + 1) i os)

pub named_are_dead : NamedAreDead
named_are_dead dies w object =
    subst (λ (m : ℕ). (object_at (with_state dead dies 0 w.objects) object).state ≡ (if dies m then dead else (object_at w.objects object).state)) (omega arith) (deaths_at dies 0 object w.objects)

pub granules_leave : GranulesOfTheDeadLeave
granules_leave dies w object g =
    let listed = listed_is object g (surviving_cells dies w.outside) ∙ cell-surviving dies object g w.outside in (
      λ h. listed ∙ cond_true (dies object) None (cell_in object g w.outside) h,
      λ h. listed ∙ cond_false (dies object) None (cell_in object g w.outside) h ∙ sym (listed_is object g w.outside),
    )

pub granules_do_not_count : GranulesOfTheDeadDoNotCount
granules_do_not_count dies w = length-filter (λ e. not (dies e.object)) w.outside

-- ---- freed objects

-- an object that comes into a state, and one that a test doesn't name
pub named_at : (state : ObjectState) (named : ℕ → Bool) (n i : ℕ) (os : List Object) → named (n + i) ≡ true → i < length os → object_at (with_state state named n os) i ≡ record (object_at os i) { state = state }
named_at state named n i [] is made = absurd (omega arith)
named_at state named n zero (o ∷ os) is made =
    let this : named n ≡ true = subst (λ (m : ℕ). named m ≡ true) (omega arith) is in
    ap (λ (b : Bool). changed_if b state o) this
named_at state named n (suc i) (o ∷ os) is made =
    named_at state named (n + 1) i os (subst (λ (m : ℕ). named m ≡ true) (omega arith) is) (omega arith)

pub unnamed_at : (state : ObjectState) (named : ℕ → Bool) (n i : ℕ) (os : List Object) → named (n + i) ≡ false → object_at (with_state state named n os) i ≡ object_at os i
unnamed_at state named n i [] is = refl
unnamed_at state named n zero (o ∷ os) is =
    let this : named n ≡ false = subst (λ (m : ℕ). named m ≡ false) (omega arith) is in
    ap (λ (b : Bool). changed_if b state o) this
unnamed_at state named n (suc i) (o ∷ os) is =
    unnamed_at state named (n + 1) i os (subst (λ (m : ℕ). named m ≡ false) (omega arith) is)

-- an object that isn't dead has been made
pub is_made : (objects : List Object) (object : ℕ) → is_dead_state (object_at objects object).state ≡ false → object < length objects
is_made objects object h = by_test (nat_lt object (length objects)) refl
  where
    by_test : (b : Bool) → nat_lt object (length objects) ≡ b → object < length objects
    by_test true t = grind (arith, nat_tests)
    by_test false t =
        let past : length objects ≤ object = grind (arith, nat_tests) in
        let none : is_dead_state (object_at objects object).state ≡ true = ap (λ (o : Object). is_dead_state o.state) (get_or_past objects object no_object past) in
        absurd (cc)

pub freed_stays_known : FreedStaysKnown
freed_stays_known object w h =
    named_at freed (λ other. other == object) 0 object w.objects (subst (λ (m : ℕ). (m == object) ≡ true) (omega arith) (eq-eqb object object refl)) (is_made w.objects object (ap is_dead_state h))

pub granules_of_freed_leave : GranulesOfTheFreedLeave
granules_of_freed_leave object g w =
    let dies = λ (other : ℕ). other == object in
    let listed = listed_is object g (surviving_cells dies w.outside) ∙ cell-surviving dies object g w.outside in
    (listed ∙ cond_true (dies object) None (cell_in object g w.outside) (eq-eqb object object refl), refl, refl)

pub others_stay_as_they_are : OthersStayAsTheyAre
others_stay_as_they_are object other g w ne =
    let dies = λ (o : ℕ). o == object in
    let not_this : dies other ≡ false = grind (arith, nat_tests) in
    let listed = listed_is other g (surviving_cells dies w.outside) ∙ cell-surviving dies other g w.outside in (
      unnamed_at freed dies 0 other w.objects (subst (λ (m : ℕ). dies m ≡ false) (omega arith) not_this),
      listed ∙ cond_false (dies other) None (cell_in other g w.outside) not_this ∙ sym (listed_is other g w.outside),
    )

if_true : {A : Type 0} (b : Bool) (x y : A) → b ≡ true → (if b then x else y) ≡ x
if_true true x y h = refl
if_true false x y h = absurd (cc)

if_false : {A : Type 0} (b : Bool) (x y : A) → b ≡ false → (if b then x else y) ≡ y
if_false true x y h = absurd (cc)
if_false false x y h = refl

free_is : (profile : Profile) (line object : ℕ) (offset : ℤ) (w : World) → is_dead_state (object_at w.objects object).state ≡ false → free profile line (value.Ptr object offset) w ≡ free_known profile line (value.Ptr object offset) w
free_is profile line object offset w known =
    if_false (is_dead_state (object_at w.objects object).state) _ _ known

first_byte : (o : Object) → o.state ≡ live → o.sort ≡ Heap → frees_it o (pos 0) ≡ true
first_byte o alive heap =
    ap (λ (s : ObjectState). frees (is_freed s) o.sort (pos 0)) alive ∙ ap (λ (s : Sort). frees false s (pos 0)) heap

pub first_byte_is_freed : FirstByteIsFreed
first_byte_is_freed line object w alive heap =
    let test : frees_it (object_at w.objects object) (pos 0) ≡ true = first_byte (object_at w.objects object) alive heap in
    let known : is_dead_state (object_at w.objects object).state ≡ false = ap is_dead_state alive in (
      free_is Two line object (pos 0) w known ∙ if_true (frees_it (object_at w.objects object) (pos 0)) _ _ test,
      free_is One line object (pos 0) w known ∙ if_true (frees_it (object_at w.objects object) (pos 0)) _ _ test,
    )

pub freed_again_is_told : FreedAgainIsTold
freed_again_is_told profile line object offset w h =
    let o : Object = object_at w.objects object in
    let test : frees_it o offset ≡ false = ap (λ (s : ObjectState). frees (is_freed s) o.sort offset) h in
    free_is profile line object offset w (ap is_dead_state h) ∙ if_false (frees_it o offset) _ _ test

pub known_are_moved : KnownAreMoved
known_are_moved away line p d w known = if_false (is_dead w.objects p) _ _ known

neither : (a b : Bool) → a ≡ false → b ≡ false → (a || b) ≡ false
neither false b h i = i
neither true b h i = absurd (cc)

-- a comparison that is asked only where neither pointer is null
unless_null : (a b c : Bool) → c ≡ false → (not a && (not b && c)) ≡ false
unless_null true b c h = refl
unless_null false true c h = refl
unless_null false false c h = h

uses_none : (r : Relation) (p q : Value) (w : World) → one_is_dead w p q ≡ false → uses_dead r w p q ≡ false
uses_none relation.Lt p q w h = h
uses_none relation.Gt p q w h = h
uses_none relation.Le p q w h = h
uses_none relation.Ge p q w h = h
uses_none relation.Eq p q w h = unless_null (is_null p) (is_null q) (one_is_dead w p q) h
uses_none relation.Ne p q w h = unless_null (is_null p) (is_null q) (one_is_dead w p q) h

pub known_are_compared : KnownAreCompared
known_are_compared r line p q w h i =
    if_false (uses_dead r w p q) _ _ (uses_none r p q w (neither (is_dead w.objects p) (is_dead w.objects q) h i))

pub known_are_subtracted : KnownAreSubtracted
known_are_subtracted size line p q w h i =
    if_false (one_is_dead w p q) _ _ (neither (is_dead w.objects p) (is_dead w.objects q) h i)
