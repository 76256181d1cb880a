-- Slots, once a pointer is moved, and granules, once they are read or written: they are of objects that are known.
use Rattle.std.proofs.Common.{◌≡◌, ℕ, ◌==◌, Bool, true, false, cond, nat_lt, ℤ, ◌+ℤ◌, Option, Some, None, Result, Ok, Err, List, [], ◌∷◌, refl, sym, ap, ◌∙◌, subst, inl, inr, ⊎_elim}
use Rattle.std.specs.Prelude.{◌⊎◌, OnErr, OnOk}
use Rattle.std.specs.List.{All, Contains, find}
use Rattle.std.specs.Option.{option_map}
use Rattle.std.specs.Ordering.{int_eq}
use Rattle.std.proofs.lemmas.Bool.{and_parts, cases_Bool, cond-false, cond-true, eqb-true}
use Rattle.std.proofs.lemmas.List.Elements.{All-cons, All-contains, All-filter, All-push, All-set, All-take}
use Rattle.ob_model.specs.Accesses.{is_far, is_inside}
use Rattle.ob_model.specs.Bounded.{Listed, after_load, after_store, is_of, moved_to_front, put_first, without_granule}
use Rattle.ob_model.specs.Cells.{Content}
use Rattle.ob_model.specs.Descriptors.{Pair, Slots, free_slot, named_pair, pair_count, put_slot, slot_of, vacant, with_pair, word_of}
use Rattle.ob_model.specs.Entries.{Known, holds_address, known_at, known_of}
use Rattle.ob_model.specs.Pointers as moves
use Rattle.ob_model.specs.Pointers.{Moved, moved_by}
use Rattle.ob_code.specs.Pointers.{Target, base_of, by_address, by_slot, found, into, no_slot, nothing, placed, pointer_of, resolve, shift, Shifted, shifted, size_of, slot_for, too_far}
use Rattle.ob_code.specs.State.{Space}
use Rattle.ob_pointers.specs.declared.pointers.ShiftAnswer.{ShiftAnswer}
use Rattle.ob_pointers.specs.Pointing.{Pointing, Shifts, with_pointing}
use Rattle.ob_lifetimes.specs.Kept.{CellHasNumber, HasNumber, PairHasNumber}
use Rattle.ob_lifetimes.proofs.Members.{here, there}

same_some : {X : Type 0} (x y : X) → Some x ≡ Some y → x ≡ y
same_some x y e = cc

never : {X A : Type 0} (x : X) → None ≡ Some x → A
never x e = absurd (cc)

pub found_among : {X : Type 0} (p : X → Bool) (xs : List X) (x : X) → find p xs ≡ Some x → Contains xs x × (p x ≡ true)
found_among p [] x is = never x is
found_among p (y ∷ ys) x is =
    ⊎_elim
    (λ met.
    let same : y ≡ x = same_some y x (sym (cond-true (p y) (Some y) (find p ys) met) ∙ is) in
    (subst (λ z. Contains (z ∷ ys) x) (sym same) (here x ys), ap p (sym same) ∙ met))
    (λ unmet.
    let rest : Contains ys x × (p x ≡ true) = found_among p ys x (sym (cond-false (p y) (Some y) (find p ys) unmet) ∙ is) in
    (there y x ys rest.0, rest.1))
    (cases_Bool (p y))

-- ---- slots

module _ (ks : List Known) where
  abbrev IsKnownTarget : Target → Type 0
  IsKnownTarget nothing = Unit {0}
  IsKnownTarget (into k offset) = Contains ks k

  known_found : (o : Option Known) (offset : ℤ) → ((k : Known) → o ≡ Some k → Contains ks k) → IsKnownTarget (found o offset)
  known_found None offset among = tt
  known_found (Some k) offset among = among k refl

  known_by_slot : (o : Option Pair) → IsKnownTarget (by_slot o ks)
  known_by_slot None = tt
  known_by_slot (Some pair) =
      known_found (known_of pair.0 ks) pair.1 (λ k is. (found_among (λ (l : Known). l.entry.object == pair.0) ks k is).0)

  known_by_address : (o : Option Known) (w : ℕ) (other : Target) → ((k : Known) → o ≡ Some k → Contains ks k) → IsKnownTarget other → IsKnownTarget (by_address o w other)
  known_by_address None w other among rest = rest
  known_by_address (Some k) w other among rest = among k refl

  abbrev IsKnownMove : Moved → Type 0
  IsKnownMove moves.stays_null = Unit {0}
  IsKnownMove moves.too_far = Unit {0}
  IsKnownMove (moves.in_bounds object offset) = Unit {0}
  IsKnownMove (moves.out_of_bounds object offset) = HasNumber ks object

  known_either : (far inside : Bool) (object : ℕ) (offset : ℤ) → HasNumber ks object → IsKnownMove (cond far moves.too_far (cond inside (moves.in_bounds object offset) (moves.out_of_bounds object offset)))
  known_either true inside object offset has = tt
  known_either false true object offset has = tt
  known_either false false object offset has = has

  known_move : (t : Target) (d : ℤ) → IsKnownTarget t → IsKnownMove (moved_by (size_of t) (pointer_of t) d)
  known_move nothing d known = tt
  known_move (into k offset) d known =
      known_either (is_far (offset +ℤ d)) (is_inside k.entry.size (offset +ℤ d) 0) k.entry.object (offset +ℤ d) (record { k = k; known = known; number = refl })

  abbrev SlotsHaveNumbers : Shifted → Type 0
  SlotsHaveNumbers (shifted w t) = All (PairHasNumber ks) t.slots
  SlotsHaveNumbers too_far = Unit {0}
  SlotsHaveNumbers no_slot = Unit {0}

  put_has : (o : Option ℕ) (pair : Pair) (slots : Slots) → HasNumber ks pair.0 → All (PairHasNumber ks) slots → All (PairHasNumber ks) (put_slot o pair slots)
  put_has None pair slots has each = All-push (PairHasNumber ks) slots (Some pair) each has
  put_has (Some k) pair slots has each = All-set (PairHasNumber ks) slots k (Some pair) has each

  new_has : (b : Bool) (pair : Pair) (s : Space) → HasNumber ks pair.0 → All (PairHasNumber ks) s.slots → SlotsHaveNumbers (cond b (shifted (word_of (free_slot s.slots)) (record s { slots = with_pair pair s.slots })) no_slot)
  new_has true pair s has each = put_has (vacant s.slots) pair s.slots has each
  new_has false pair s has each = tt

  slot_has : (o : Option ℕ) (away : ℕ) (pair : Pair) (s : Space) → HasNumber ks pair.0 → All (PairHasNumber ks) s.slots → SlotsHaveNumbers (slot_for o away pair s)
  slot_has (Some k) away pair s has each = each
  slot_has None away pair s has each = new_has (nat_lt (pair_count s.slots) away) pair s has each

  placed_has : (m : Moved) (away base : ℕ) (s : Space) → IsKnownMove m → All (PairHasNumber ks) s.slots → SlotsHaveNumbers (placed away base m s)
  placed_has moves.stays_null away base s known each = each
  placed_has moves.too_far away base s known each = tt
  placed_has (moves.in_bounds object offset) away base s known each = each
  placed_has (moves.out_of_bounds object offset) away base s known each = slot_has (slot_of s.slots (object, offset)) away (object, offset) s known each

  far_has : (b : Bool) (away : ℕ) (t : Target) (d : ℤ) (s : Space) → IsKnownTarget t → All (PairHasNumber ks) s.slots → SlotsHaveNumbers (cond b too_far (placed away (base_of t) (moved_by (size_of t) (pointer_of t) d) s))
  far_has true away t d s known each = tt
  far_has false away t d s known each = placed_has (moved_by (size_of t) (pointer_of t) d) away (base_of t) s (known_move t d known) each

no_space : Space
no_space =
    record {
      memory = record { statics = 0; stack = 0; heap = 0; bytes = []; marks = [] };
      entries = [];
      slots = [];
      blocks = [];
      outside = [];
      calls = [];
      next = 0;
    }

shifted_has : (p : Pointing) (w : ℕ) (d : ℤ) → All (PairHasNumber p.entries) p.slots → SlotsHaveNumbers p.entries (shift p.away (with_pointing p no_space) w d)
shifted_has p w d each =
    far_has p.entries (is_far d) p.away (resolve (with_pointing p no_space) w) d (with_pointing p no_space)
    (known_by_address p.entries (known_at w p.entries) w (by_slot (named_pair p.slots w) p.entries)
    (λ k is. (found_among (λ (l : Known). holds_address w l.entry) p.entries k is).0) (known_by_slot p.entries (named_pair p.slots w)))
    each

pub moved_slots : (old new : Pointing) (w : ℕ) (d : ℤ) (answer : Result ℕ ShiftAnswer) → Shifts w d old answer new → OnErr answer (new ≡ old) → All (PairHasNumber old.entries) old.slots → All (PairHasNumber old.entries) new.slots
moved_slots old new w d (Ok to) moves unchanged each = subst (SlotsHaveNumbers old.entries) (moves no_space) (shifted_has old w d each)
moved_slots old new w d (Err e) moves unchanged each = subst (λ (p : Pointing). All (PairHasNumber old.entries) p.slots) (sym unchanged) each

-- ---- granules

abbrev Cells : Type 0
Cells = List (Listed (Content ℕ))

module _ (ks : List Known) (object : ℕ) (granule : ℤ) (cells : Cells) (each : All (CellHasNumber ks) cells) where
  others_have : All (CellHasNumber ks) (without_granule object granule cells)
  others_have = All-filter _ (CellHasNumber ks) cells each

  front_has : (o : Option (Listed (Content ℕ))) → find (is_of object granule) cells ≡ o → All (CellHasNumber ks) (moved_to_front (option_map (λ e. e.cell) o) object granule cells)
  front_has None is = each
  front_has (Some l) is =
      let both : Contains cells l × (is_of object granule l ≡ true) = found_among (is_of object granule) cells l is in
      let same : l.object ≡ object = eqb-true l.object object (and_parts (l.object == object) (int_eq l.granule granule) both.1).0 in
      All-cons (CellHasNumber ks) (record { object = object; granule = granule; cell = l.cell }) (without_granule object granule cells)
      (subst (HasNumber ks) same (All-contains (CellHasNumber ks) cells l each both.0)) others_have

  pub loaded_cells : All (CellHasNumber ks) (after_load object granule cells)
  loaded_cells = front_has (find (is_of object granule) cells) refl

  pub stored_cells : (cap : ℕ) (cell : Content ℕ) → HasNumber ks object → All (CellHasNumber ks) (after_store cap object granule cell cells)
  stored_cells cap cell has =
      All-take (CellHasNumber ks) cap (put_first object granule cell cells)
      (All-cons (CellHasNumber ks) (record { object = object; granule = granule; cell = cell }) (without_granule object granule cells) has others_have)

pub either_way : {A E : Type 0} (r : Result A E) (P Q : Type 0) → OnOk r P → OnErr r Q → P ⊎ Q
either_way (Ok x) P Q ok err = inl ok
either_way (Err e) P Q ok err = inr err
