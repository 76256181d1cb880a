-- Which pointers free, and how the entries of live and freed objects change.
use Rattle.std.proofs.Common.{◌≡◌, ◌↔◌, ℕ, ◌==◌, ◌<◌, ◌&&◌, ◌||◌, not, nat_lt, int_lt, Bool, true, false, cond, ℤ, pos, List, [], ◌∷◌, map, Option, Some, None, refl, ap, ◌∙◌, arith}
use Rattle.std.specs.List.{filter, find}
use Rattle.std.specs.Option.{option_map}
use Rattle.std.specs.Ordering.{int_eq}
use Rattle.std.proofs.lemmas.Bool.Decides.{nat_tests, Decides-int_eq}
use Rattle.ob_model.specs.declared.objects.Entry.{Entry}
use Rattle.ob_model.specs.declared.objects.Sort.{Sort}
use Rattle.ob_model.specs.declared.settings.Profile.{Profile}
use Rattle.ob_model.specs.declared.settings.Profile.TheVariants.{One, Two}
use Rattle.ob_model.specs.declared.values.Value.{Value}
use Rattle.ob_model.specs.declared.values.Value.TheVariants as value
use Rattle.ob_model.proofs.Conjunctions.{and_true}
use Rattle.ob_model.specs.Accesses.{is_far, is_inside}
use Rattle.ob_model.specs.Entries.{Known, entries_of, holds_address, with_entry, with_known, surviving_entries, surviving_known, freed_if, with_freed, entry_at, known_at, of_object, known_of}
use Rattle.ob_model.specs.Objects.{frees, is_heap, is_freed, is_dead_state, keeps_freed, state_once_freed}
use Rattle.ob_model.specs.Ordered.{before_or_after}
use Rattle.ob_model.specs.Pointers.{Moved, too_far, in_bounds, out_of_bounds, moved_to, is_before, object_of, offset_of}

not_true : (b : Bool) → not b ≡ true → b ≡ false
not_true true h = absurd (cc)
not_true false h = refl

all_three : (a b c : Bool) → a ≡ false → b ≡ true → c ≡ true → (not a && (b && c)) ≡ true
all_three true b c p q r = absurd (cc)
all_three false true true p q r = refl
all_three false false c p q r = absurd (cc)
all_three false true false p q r = absurd (cc)

pub own_frees : (freed : Bool) (sort : Sort) (offset : ℤ) → (frees freed sort offset ≡ true) ↔ ((freed ≡ false) × (is_heap sort ≡ true) × (offset ≡ pos 0))
own_frees freed sort offset = (
  λ h.
      let live = and_true (not freed) (is_heap sort && int_eq offset (pos 0)) h in
      let heap = and_true (is_heap sort) (int_eq offset (pos 0)) live.1 in
      let same : int_eq offset (pos 0) ≡ true = heap.1 in
      (not_true freed live.0, heap.0, grind (arith, Decides-int_eq, same)),
  λ h.
      let same : int_eq offset (pos 0) ≡ true = grind (arith, Decides-int_eq, h.2) in
      all_three freed (is_heap sort) (int_eq offset (pos 0)) h.0 h.1 same,
)

pub die_or_stay : (profile : Profile) → (is_freed (state_once_freed profile) ≡ keeps_freed profile) × (is_dead_state (state_once_freed profile) ≡ not (keeps_freed profile))
die_or_stay One = (refl, refl)
die_or_stay Two = (refl, refl)

-- ---- entries

joined : (b : Bool) (k l : Known) (ls others : List Known) → entries_of (before_or_after b k l ls others) ≡ before_or_after b k.entry l.entry (entries_of ls) (entries_of others)
joined true k l ls others = refl
joined false k l ls others = refl

pub inserted : (k : Known) (all : List Known) → entries_of (with_known k all) ≡ with_entry k.entry (entries_of all)
inserted k [] = refl
inserted k (l ∷ ls) =
    joined (nat_lt k.entry.base l.entry.base) k l ls (with_known k ls)
    ∙ ap (before_or_after (nat_lt k.entry.base l.entry.base) k.entry l.entry (entries_of ls)) (inserted k ls)

kept_if : (b : Bool) (k : Known) (ks : List Known) → entries_of (cond b (k ∷ ks) ks) ≡ cond b (k.entry ∷ entries_of ks) (entries_of ks)
kept_if true k ks = refl
kept_if false k ks = refl

pub survive : (dies : ℕ → Bool) (all : List Known) → entries_of (surviving_known dies all) ≡ surviving_entries dies (entries_of all)
survive dies [] = refl
survive dies (k ∷ ks) =
    kept_if (not (dies k.entry.object)) k (surviving_known dies ks)
    ∙ ap (λ (es : List Entry). cond (not (dies k.entry.object)) (k.entry ∷ es) es) (survive dies ks)

same_entry : (b : Bool) (k : Known) → (freed_if b k).entry ≡ k.entry
same_entry true k = refl
same_entry false k = refl

pub freed_keep : (object : ℕ) (all : List Known) → entries_of (with_freed object all) ≡ entries_of all
freed_keep object [] = refl
freed_keep object (k ∷ ks) =
    ap (λ (e : Entry). e ∷ entries_of (with_freed object ks)) (same_entry (k.entry.object == object) k)
    ∙ ap (λ (es : List Entry). k.entry ∷ es) (freed_keep object ks)

found_if : (b : Bool) (k : Known) (other : Option Known) → option_map (λ (l : Known). l.entry) (cond b (Some k) other) ≡ cond b (Some k.entry) (option_map (λ (l : Known). l.entry) other)
found_if true k other = refl
found_if false k other = refl

pub found_by : (test : Entry → Bool) (all : List Known) → option_map (λ (l : Known). l.entry) (find (λ (l : Known). test l.entry) all) ≡ find test (entries_of all)
found_by test [] = refl
found_by test (k ∷ ks) =
    found_if (test k.entry) k (find (λ (l : Known). test l.entry) ks)
    ∙ ap (λ (o : Option Entry). cond (test k.entry) (Some k.entry) o) (found_by test ks)

-- ---- pointers

moved_in : (far inside : Bool) (x y z : Moved) → far ≡ false → inside ≡ true → cond far x (cond inside y z) ≡ y
moved_in true inside x y z p q = absurd (cc)
moved_in false true x y z p q = refl
moved_in false false x y z p q = absurd (cc)

moved_out : (far inside : Bool) (x y z : Moved) → far ≡ false → inside ≡ false → cond far x (cond inside y z) ≡ z
moved_out true inside x y z p q = absurd (cc)
moved_out false true x y z p q = absurd (cc)
moved_out false false x y z p q = refl

pub moves_stay : (size object : ℕ) (offset : ℤ) → is_far offset ≡ false → (is_inside size offset 0 ≡ true → moved_to size object offset ≡ in_bounds object offset) × (is_inside size offset 0 ≡ false → moved_to size object offset ≡ out_of_bounds object offset)
moves_stay size object offset near = (
  λ h. moved_in (is_far offset) (is_inside size offset 0) too_far (in_bounds object offset) (out_of_bounds object offset) near h,
  λ h. moved_out (is_far offset) (is_inside size offset 0) too_far (in_bounds object offset) (out_of_bounds object offset) near h,
)
