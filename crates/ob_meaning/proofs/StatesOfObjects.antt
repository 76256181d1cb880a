-- The states and sorts of objects, as acts change them.
use Rattle.std.proofs.Common.{◌≡◌, ◌≢◌, ℕ, zero, suc, ◌+◌, ◌<◌, ◌⊎◌, inl, inr, Bool, true, false, ℤ, List, [], ◌∷◌, ◌++◌, length, arith, refl, sym, subst, ◌∙◌, ap}
use Rattle.std.proofs.lemmas.List.{length-set}
use Rattle.ob_model.specs.declared.objects.Sort.TheVariants.{Automatic}
use Rattle.ob_model.specs.declared.strays.Act.TheVariants as act
use Rattle.ob_model.specs.declared.values.LoadKind.{LoadKind}
use Rattle.ob_model.specs.declared.values.Value.{Value}
use Rattle.ob_model.specs.Accesses.{bytes_of_kind, granule, stray_event}
use Rattle.ob_model.specs.Accesses as reaches
use Rattle.ob_model.specs.Objects.{ObjectState, live, dead}
use Rattle.ob_tree.specs.Types.{PlainType, PlainStructs}
use Rattle.ob_meaning.specs.Accesses.{Target, dead_object, too_far, at, outside_cell, store, store_at, target}
use Rattle.ob_meaning.specs.Calls.{automatics}
use Rattle.ob_meaning.specs.Memory.{Object, changed_if, object_at, own_cell, with_own, with_own_cell, with_state}
use Rattle.ob_meaning.specs.Values.{Cell, write_cell}
use Rattle.ob_meaning.specs.World.{Rule, World, end_of, told}
use Rattle.ob_meaning.proofs.Stores.{field_same, put_objects}

-- ---- objects that come into a state

pub changed_cases : (state : ObjectState) (named : ℕ → Bool) (n i : ℕ) (os : List Object) → (object_at (with_state state named n os) i ≡ object_at os i) ⊎ ((named (n + i) ≡ true) × (object_at (with_state state named n os) i ≡ record (object_at os i) { state = state }))
changed_cases state named n i [] = inl refl
changed_cases state named n zero (o ∷ os) = by_test (named n) refl
  where
    by_test : (b : Bool) → named n ≡ b → (changed_if b state o ≡ o) ⊎ ((named (n + 0) ≡ true) × (changed_if b state o ≡ record o { state = state }))
    by_test true is = inr (subst (λ (m : ℕ). named m ≡ true) (omega arith) is, refl)
    by_test false is = inl refl
changed_cases state named n (suc i) (o ∷ os) =
    elim (changed_cases state named (n + 1) i os) [
      | inl same ↦ inl same
      | inr h ↦ inr (subst (λ (m : ℕ). named m ≡ true) (omega arith) h.0, h.1)
    ]

pub sort_changed : (state : ObjectState) (named : ℕ → Bool) (i : ℕ) (os : List Object) → (object_at (with_state state named 0 os) i).sort ≡ (object_at os i).sort
sort_changed state named i os =
    elim (changed_cases state named 0 i os) [
      | inl same ↦ ap (λ (o : Object). o.sort) same
      | inr h ↦ ap (λ (o : Object). o.sort) h.1
    ]

pub length_changed : (state : ObjectState) (named : ℕ → Bool) (n : ℕ) (os : List Object) → length (with_state state named n os) ≡ length os
length_changed state named n [] = refl
length_changed state named n (o ∷ os) = ap suc (length_changed state named (n + 1) os)

-- ---- objects that are added

pub live_append : (os ms : List Object) (i : ℕ) → (object_at os i).state ≡ live → (object_at (os ++ ms) i).state ≡ live
live_append [] ms i h = absurd (cc)
live_append (o ∷ os) ms zero h = h
live_append (o ∷ os) ms (suc i) h = live_append os ms i h

pub automatic_append : (os ms : List Object) (i : ℕ) → (object_at os i).sort ≡ Automatic → (object_at (os ++ ms) i).sort ≡ Automatic
automatic_append [] ms i h = absurd (cc)
automatic_append (o ∷ os) ms zero h = h
automatic_append (o ∷ os) ms (suc i) h = automatic_append os ms i h

-- those added, from the first one on
pub added_at : (os ms : List Object) (k : ℕ) → object_at (os ++ ms) (length os + k) ≡ object_at ms k
added_at [] ms k =
    let start : 0 + k ≡ k = omega arith in
    ap (object_at ms) start
added_at (o ∷ os) ms k =
    let next : suc (length os) + k ≡ suc (length os + k) = omega arith in
    ap (object_at (o ∷ (os ++ ms))) next ∙ added_at os ms k

-- where none that is added is dead, a dead object was there before
abbrev pub NoneDead : List Object → Type 0
NoneDead ms = (k : ℕ) → k < length ms → (object_at ms k).state ≢ dead

abbrev pub WasDead : List Object → List Object → ℕ → Type 0
WasDead before after i =
    (i < length before) × ((object_at before i).state ≡ dead) × ((object_at before i).sort ≡ (object_at after i).sort)

pub dead_append : (os ms : List Object) (i : ℕ) → NoneDead ms → i < length (os ++ ms) → (object_at (os ++ ms) i).state ≡ dead → WasDead os (os ++ ms) i
dead_append [] ms i none made h = absurd (none i made h)
dead_append (o ∷ os) ms zero none made h = (omega arith, h, refl)
dead_append (o ∷ os) ms (suc i) none made h =
    let before = dead_append os ms i none (omega arith) h in
    (let below : i < length os = before.0 in omega arith, before.1, before.2)

-- the automatic objects of a call
pub automatics_sort : (structs : PlainStructs) (ts : List PlainType) (vs : List Value) (k : ℕ) → k < length ts → (object_at (automatics structs ts vs) k).sort ≡ Automatic
automatics_sort structs [] vs k h = absurd (omega arith)
automatics_sort structs (t ∷ ts) [] zero h = refl
automatics_sort structs (t ∷ ts) (v ∷ vs) zero h = refl
automatics_sort structs (t ∷ ts) [] (suc k) h = automatics_sort structs ts [] k (omega arith)
automatics_sort structs (t ∷ ts) (v ∷ vs) (suc k) h = automatics_sort structs ts vs k (omega arith)

pub automatics_live : (structs : PlainStructs) (ts : List PlainType) (vs : List Value) (k : ℕ) → k < length (automatics structs ts vs) → (object_at (automatics structs ts vs) k).state ≡ live
automatics_live structs [] vs k h = absurd (omega arith)
automatics_live structs (t ∷ ts) [] zero h = refl
automatics_live structs (t ∷ ts) (v ∷ vs) zero h = refl
automatics_live structs (t ∷ ts) [] (suc k) h = automatics_live structs ts [] k (omega arith)
automatics_live structs (t ∷ ts) (v ∷ vs) (suc k) h = automatics_live structs ts vs k (omega arith)

-- ---- stores

-- a store keeps each object's sort, and how many there are
abbrev SameSorts : List Object → List Object → ℕ → Type 0
SameSorts after before other =
    ((object_at after other).sort ≡ (object_at before other).sort) × (length after ≡ length before)

own_sorts : (objects : List Object) (object other : ℕ) (g : ℤ) (cell : Cell) → SameSorts (with_own_cell objects object g cell) objects other
own_sorts objects object other g cell =
    let new : Object = with_own (object_at objects object) g cell in
    (field_same (λ (o : Object). o.sort) objects object other new refl, length-set objects object new)

target_sorts : (t : Target) (rule : Rule) (kind : LoadKind) (line other : ℕ) (v : Value) (w : World) → SameSorts (end_of (store_at t rule kind line v w)).objects w.objects other
target_sorts dead_object rule kind line other v w = (refl, refl)
target_sorts too_far rule kind line other v w = (refl, refl)
target_sorts (at object o reaches.inside) rule kind line other v w =
    own_sorts w.objects object other (granule o) (write_cell kind o v (own_cell w.objects object (granule o)))
target_sorts (at object o reaches.own) rule kind line other v w =
    own_sorts w.objects object other (granule o) (write_cell kind o v (own_cell w.objects object (granule o)))
target_sorts (at object o reaches.outside) rule kind line other v w =
    let x : World = told (stray_event line act.Store object o (bytes_of_kind kind)) w in
    subst (λ (os : List Object). SameSorts os w.objects other) (sym (put_objects rule line object (granule o) (write_cell kind o v (outside_cell x object (granule o))) x)) (refl, refl)
target_sorts (at object o reaches.vanishing) rule kind line other v w = (refl, refl)

pub store_sorts : (rule : Rule) (kind : LoadKind) (line other : ℕ) (p v : Value) (d : ℤ) (w : World) → ((object_at (end_of (store rule kind line p d v w)).objects other).sort ≡ (object_at w.objects other).sort) × (length (end_of (store rule kind line p d v w)).objects ≡ length w.objects)
store_sorts rule kind line other p v d w = target_sorts (target rule w.objects p d (bytes_of_kind kind)) rule kind line other v w
