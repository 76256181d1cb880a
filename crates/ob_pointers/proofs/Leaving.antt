-- An object dies, or is freed and stays known.
use Rattle.std.proofs.Common.{◌≡◌, ◌==◌, ℕ, ◌+◌, ◌*◌, ◌%◌, ◌<◌, ◌≤◌, ◌^◌, Bool, true, false, cond, not, List, length, get_or, get_or-set_same, arith, Option, Some, None, ap, subst, ⊎_elim, sym, ◌∙◌, refl}
use Rattle.std.specs.List.{Contains}
use Rattle.std.specs.Option.{option_map}
use Rattle.std.proofs.lemmas.Bool.{cases_eq, cond-true, cond-false, eq-eqb, ne_eqb, eqb-false, both_ways, false≢true, not-true}
use Rattle.std.proofs.lemmas.List.Elements.{All-filter}
use Rattle.std.proofs.lemmas.List.Kept.{AllPairs-filter}
use Rattle.ob_model.specs.declared.objects.Entry.{Entry}
use Rattle.ob_model.specs.Descriptors.{Pair, Slots, is_dying, surviving_pairs}
use Rattle.ob_model.specs.Entries.{Known, without_base, surviving_known, freed_if, with_freed}
use Rattle.ob_model.specs.Limits.{heap_start}
use Rattle.ob_away.specs.Slots.{Descriptors, is_of, without}
use Rattle.ob_objects.specs.Objects.{Objects, Precedes}
use Rattle.ob_pointers.specs.Pointing.{IsAt, IsHeapPlace}
use Rattle.ob_pointers.specs.Kept.{IsKept, Begins, HaveTwoNumbers, mark_index, is_marked, with_mark, known, known_in, numbered, number_at, slots_in, pointing_in}
use Rattle.ob_pointers.proofs.Lists.{among_kept, kept_among, filter_mapped, map_twice, mapped_from}
use Rattle.ob_pointers.proofs.Known.{number_at_its_base, one_base}
use Rattle.ob_pointers.proofs.Slotting.{same_tests}
use Rattle.ob_pointers.proofs.Marks.{length_with, mark_elsewhere, is_set, at_index, with_above, even_of, index_within, index_there}

-- ---- the object that a caller names

pub record IsNamed (base object : ℕ) (entries : List Entry) : Type 0 where
  pub entry : Entry
  pub among : Contains entries entry
  pub there : entry.base ≡ base
  pub number : entry.object ≡ object

pub named_by : (base object : ℕ) (objects : Objects) (marks : List Bool) (away : Descriptors) (heap : ℕ) → IsAt base object (pointing_in objects marks away heap) → IsNamed base object objects.entries
named_by base object objects marks away heap at =
    let from = mapped_from (known marks) objects.entries at.k at.known in
    let same : from.0 ≡ at.k.entry = ap (λ (k : Known). k.entry) from.2 in
    record {
      entry = from.0;
      among = from.1;
      there = ap (λ (e : Entry). e.base) same ∙ at.there;
      number = ap (λ (e : Entry). e.object) same ∙ at.number;
    }

-- ---- slots whose pairs go

stays_if : (b : Bool) (slot : Option Pair) (pair : Pair) → cond b None slot ≡ Some pair → (b ≡ false) × (slot ≡ Some pair)
stays_if true slot pair is = absurd (cc)
stays_if false slot pair is = (refl, is)

abbrev freed_slot : ℕ → Option Pair → Option Pair
freed_slot base slot = cond (is_of base slot) None slot

stays_foreign : (base : ℕ) (slot : Option Pair) (pair : Pair) → freed_slot base slot ≡ Some pair → (slot ≡ Some pair) × (base ≡ pair.0 → ⊥)
stays_foreign base slot pair is =
    let parts = stays_if (is_of base slot) slot pair is in
    (parts.1, λ same. both_ways (is_of base (Some pair)) (ap (is_of base) (sym parts.1) ∙ parts.0) (eq-eqb base pair.0 same))

pub stays_held : (base : ℕ) (slots : Slots) (pair : Pair) → Contains (without base slots) (Some pair) → Contains slots (Some pair) × (base ≡ pair.0 → ⊥)
stays_held base slots pair at =
    let from = mapped_from (freed_slot base) slots (Some pair) at in
    let parts = stays_foreign base from.0 pair from.2 in
    (subst (λ (slot : Option Pair). Contains slots slot) parts.0 from.1, parts.1)

module _ (entries : List Entry) (marks : List Bool) (slots : Slots) (heap : ℕ) (kept : IsKept entries marks slots heap) (base object : ℕ) (named : IsNamed base object entries) where
  own_even : heap_start ≤ base → base % 16 ≡ 0
  own_even = subst (λ n. heap_start ≤ n → n % 16 ≡ 0) named.there (even_of entries marks slots heap kept named.entry named.among)

  own_index : heap_start ≤ base → mark_index base < length marks
  own_index = subst (λ n. heap_start ≤ n → mark_index n < length marks) named.there (index_within entries marks slots heap kept named.entry named.among)

  -- another object keeps its mark
  other_mark : (freed : Bool) (e : Entry) → Contains entries e → (e.base ≡ base → ⊥) → is_marked (with_mark marks base freed) e.base ≡ is_marked marks e.base
  other_mark freed e at apart = mark_elsewhere marks base e.base freed own_even (even_of entries marks slots heap kept e at) apart

  -- numbers and bases tell the same objects apart
  told : (e : Entry) → Contains entries e → (e.object == object) ≡ (e.base == base)
  told e at =
      ap (λ n. e.object == n) (sym named.number)
      ∙ same_tests entries marks slots heap kept e named.entry at named.among
      ∙ ap (λ n. e.base == n) named.there

  -- ---- death

  begins_still : (at : ℕ) → Begins entries at → (at ≡ base → ⊥) → Begins (without_base base entries) at
  begins_still at begins apart = record {
    entry = begins.entry;
    among = among_kept (λ (e : Entry). not (e.base == base)) entries begins.entry begins.among (ap not (ne_eqb begins.entry.base base (λ same. apart (sym begins.there ∙ same))));
    there = begins.there;
  }

  cleared : (i : ℕ) → get_or (with_mark marks base false) i false ≡ true → (get_or marks i false ≡ true) × (heap_start + 16 * i ≡ base → ⊥)
  cleared i set =
      let apart : heap_start ≤ base → i ≡ mark_index base → ⊥ =
      λ above same. false≢true (sym (get_or-set_same marks (mark_index base) false false (own_index above)) ∙ ap (λ (m : List Bool). get_or m (mark_index base) false) (sym (with_above marks base false above)) ∙ ap (λ n. get_or (with_mark marks base false) n false) (sym same) ∙ set) in (
        sym (at_index marks base i false apart) ∙ set,
        λ there. let above : heap_start ≤ base = omega arith in let e = index_there base above own_even in apart above (omega arith),
      )

  pub kept_left : IsKept (without_base base entries) (with_mark marks base false) (without base slots) heap
  kept_left = record {
    in_order = AllPairs-filter Precedes (λ (e : Entry). not (e.base == base)) entries kept.in_order;
    numbers = AllPairs-filter HaveTwoNumbers (λ (e : Entry). not (e.base == base)) entries kept.numbers;
    near = All-filter (λ (e : Entry). not (e.base == base)) (λ (e : Entry). e.base + e.size < 2 ^ 63) entries kept.near;
    places = All-filter (λ (e : Entry). not (e.base == base)) (IsHeapPlace heap) entries kept.places;
    bases = λ pair at. let held = stays_held base slots pair at in begins_still pair.0 (kept.bases pair held.0) (λ same. held.1 (sym same));
    marked = λ i set. let was = cleared i set in begins_still (heap_start + 16 * i) (kept.marked i was.0) was.1;
    room = length_with marks base false ∙ kept.room;
  }

  pub known_left : known_in (with_mark marks base false) (without_base base entries) ≡ surviving_known (λ other. other == object) (known_in marks entries)
  known_left =
      sym (filter_mapped (known marks) (λ (k : Known). not (k.entry.object == object)) (λ (e : Entry). not (e.base == base)) (known (with_mark marks base false)) entries
      (λ e at. (
        ap not (told e at),
        λ stays. ap (λ b. record { entry = e; freed = b }) (sym (other_mark false e at (eqb-false e.base base (not-true (e.base == base) stays)))),
      )))

  slot_left : (slot : Option Pair) → Contains slots slot → option_map (numbered (without_base base entries)) (freed_slot base slot) ≡ cond (is_dying (λ other. other == object) (option_map (numbered entries) slot)) None (option_map (numbered entries) slot)
  slot_left None at = refl
  slot_left (Some pair) at =
      let begins = kept.bases pair at in
      let number : number_at entries pair.0 ≡ begins.entry.object = ap (number_at entries) (sym begins.there) ∙ number_at_its_base entries kept.in_order begins.entry begins.among in
      let dies : (number_at entries pair.0 == object) ≡ (pair.0 == base) = ap (λ n. n == object) number ∙ told begins.entry begins.among ∙ ap (λ n. n == base) begins.there in
      ⊎_elim
      (λ same.
      ap (option_map (numbered (without_base base entries))) (cond-true (base == pair.0) None (Some pair) (eq-eqb base pair.0 (sym same)))
      ∙ sym (cond-true (number_at entries pair.0 == object) None (Some (numbered entries pair)) (dies ∙ eq-eqb pair.0 base same)))
      (λ apart.
      let still = begins_still pair.0 begins apart in
      let number_still : number_at (without_base base entries) pair.0 ≡ still.entry.object = ap (number_at (without_base base entries)) (sym still.there) ∙ number_at_its_base (without_base base entries) kept_left.in_order still.entry still.among in
      let one : still.entry ≡ begins.entry =
      one_base entries kept.in_order still.entry begins.entry (kept_among (λ (e : Entry). not (e.base == base)) entries still.entry still.among).0 begins.among (still.there ∙ sym begins.there) in
      ap (option_map (numbered (without_base base entries))) (cond-false (base == pair.0) None (Some pair) (ne_eqb base pair.0 (λ same. apart (sym same))))
      ∙ ap (λ n. Some (n, pair.1)) (number_still ∙ ap (λ (e : Entry). e.object) one ∙ sym number)
      ∙ sym (cond-false (number_at entries pair.0 == object) None (Some (numbered entries pair)) (dies ∙ ne_eqb pair.0 base apart)))
      (cases_eq pair.0 base)

  pub slots_left : slots_in (without_base base entries) (without base slots) ≡ surviving_pairs (λ other. other == object) (slots_in entries slots)
  slots_left =
      map_twice (option_map (numbered (without_base base entries))) (freed_slot base) (λ (slot : Option Pair). cond (is_dying (λ other. other == object) (option_map (numbered entries) slot)) None (option_map (numbered entries) slot)) slots slot_left
      ∙ sym (map_twice (λ (slot : Option Pair). cond (is_dying (λ other. other == object) slot) None slot) (option_map (numbered entries)) (λ (slot : Option Pair). cond (is_dying (λ other. other == object) (option_map (numbered entries) slot)) None (option_map (numbered entries) slot)) slots (λ slot at. refl))

  -- ---- freed, and known still

  module _ (above : heap_start ≤ base) where
    set_there : (i : ℕ) → get_or (with_mark marks base true) i false ≡ true → Begins entries (heap_start + 16 * i)
    set_there i set =
        ⊎_elim
        (λ same. record { entry = named.entry; among = named.among; there = named.there ∙ index_there base above own_even ∙ ap (λ n. heap_start + 16 * n) (sym same) })
        (λ apart. kept.marked i (sym (at_index marks base i true (λ _ same. apart same)) ∙ set))
        (cases_eq i (mark_index base))

    pub kept_freed : IsKept entries (with_mark marks base true) slots heap
    kept_freed = record {
      in_order = kept.in_order;
      numbers = kept.numbers;
      near = kept.near;
      places = kept.places;
      bases = kept.bases;
      marked = set_there;
      room = length_with marks base true ∙ kept.room;
    }

    freed_alike : (e : Entry) → Contains entries e → freed_if (e.object == object) (known marks e) ≡ known (with_mark marks base true) e
    freed_alike e at =
        ⊎_elim
        (λ same.
        ap (λ b. freed_if b (known marks e)) (told e at ∙ eq-eqb e.base base same)
        ∙ ap (λ b. record { entry = e; freed = b }) (sym (ap (is_marked (with_mark marks base true)) same ∙ is_set marks base true above (own_index above))))
        (λ apart.
        ap (λ b. freed_if b (known marks e)) (told e at ∙ ne_eqb e.base base apart)
        ∙ ap (λ b. record { entry = e; freed = b }) (sym (other_mark true e at apart)))
        (cases_eq e.base base)

    pub known_freed : known_in (with_mark marks base true) entries ≡ with_freed object (known_in marks entries)
    known_freed = sym (map_twice (λ (k : Known). freed_if (k.entry.object == object) k) (known marks) (known (with_mark marks base true)) entries freed_alike)

-- ---- the calls

pub kept_died : (entries : List Entry) (old : List Bool) (slots : Slots) (heap base object : ℕ) → IsKept entries old slots heap → IsNamed base object entries → (others : List Entry) (marks : List Bool) (left : Slots) → others ≡ without_base base entries → marks ≡ with_mark old base false → left ≡ without base slots → IsKept others marks left heap
kept_died entries old slots heap base object kept named others marks left one two three =
    subst (λ (es : List Entry). IsKept es marks left heap) (sym one)
    (subst (λ (m : List Bool). IsKept (without_base base entries) m left heap) (sym two)
    (subst (λ (s : Slots). IsKept (without_base base entries) (with_mark old base false) s heap) (sym three)
    (kept_left entries old slots heap kept base object named)))

pub pointing_died : (old new : Objects) (marks after : List Bool) (away left : Descriptors) (heap base object : ℕ) → IsKept old.entries marks away.slots heap → IsNamed base object old.entries → new.entries ≡ without_base base old.entries → new.most ≡ old.most → after ≡ with_mark marks base false → left ≡ record away { slots = without base away.slots } → pointing_in new after left heap ≡ record (pointing_in old marks away heap) { entries = surviving_known (λ other. other == object) (known_in marks old.entries); slots = surviving_pairs (λ other. other == object) (slots_in old.entries away.slots) }
pointing_died old new marks after away left heap base object kept named entries most marked gone =
    ap (λ (es : List Entry). record { most = new.most; away = left.limit; heap = heap; entries = known_in after es; slots = slots_in es left.slots }) entries
    ∙ ap (λ n. record { most = n; away = left.limit; heap = heap; entries = known_in after (without_base base old.entries); slots = slots_in (without_base base old.entries) left.slots }) most
    ∙ ap (λ (m : List Bool). record { most = old.most; away = left.limit; heap = heap; entries = known_in m (without_base base old.entries); slots = slots_in (without_base base old.entries) left.slots }) marked
    ∙ ap (λ (d : Descriptors). record { most = old.most; away = d.limit; heap = heap; entries = known_in (with_mark marks base false) (without_base base old.entries); slots = slots_in (without_base base old.entries) d.slots }) gone
    ∙ ap (λ (ks : List Known). record { most = old.most; away = away.limit; heap = heap; entries = ks; slots = slots_in (without_base base old.entries) (without base away.slots) }) (known_left old.entries marks away.slots heap kept base object named)
    ∙ ap (λ (slots : Slots). record { most = old.most; away = away.limit; heap = heap; entries = surviving_known (λ other. other == object) (known_in marks old.entries); slots = slots }) (slots_left old.entries marks away.slots heap kept base object named)

pub pointing_freed : (objects : Objects) (marks after : List Bool) (away : Descriptors) (heap base object : ℕ) → IsKept objects.entries marks away.slots heap → IsNamed base object objects.entries → heap_start ≤ base → after ≡ with_mark marks base true → pointing_in objects after away heap ≡ record (pointing_in objects marks away heap) { entries = with_freed object (known_in marks objects.entries) }
pointing_freed objects marks after away heap base object kept named above marked =
    ap (λ (m : List Bool). record { most = objects.most; away = away.limit; heap = heap; entries = known_in m objects.entries; slots = slots_in objects.entries away.slots }) marked
    ∙ ap (λ (ks : List Known). record { most = objects.most; away = away.limit; heap = heap; entries = ks; slots = slots_in objects.entries away.slots }) (known_freed objects.entries marks away.slots heap kept base object named above)
