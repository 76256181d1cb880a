-- Each change of memory keeps what words stand for.
use Rattle.std.proofs.Common.{◌≡◌, ◌≢◌, ℕ, ◌+◌, ◌<◌, ◌≤◌, ◌==◌, Bool, true, false, cond, nat_lt, ℤ, ◌+ℤ◌, unsigned_abs, List, [], ◌∷◌, ◌++◌, length, get_or, set, get_or-set_other, map, Option, Some, None, is_none, if◌then◌else◌, arith, ap, sym, subst, ◌∙◌, refl, ⊎_elim}
use Rattle.std.specs.Prelude.{position}
use Rattle.std.proofs.lemmas.Bool.{cases_Bool, cases_eq, cases_lt, cond-false}
use Rattle.std.proofs.lemmas.List.{get_or_append_left, get_or_past}
use Rattle.std.proofs.lemmas.List.Quantifiers.{position-Some}
use Rattle.std.proofs.Math.ListN.{get_or-map}
use Rattle.ob_model.specs.declared.objects.Entry.{Entry}
use Rattle.ob_model.specs.declared.settings.Profile.TheVariants.{One, Two}
use Rattle.ob_model.specs.declared.values.Value.{Value}
use Rattle.ob_model.specs.declared.values.Value.TheVariants as value
use Rattle.ob_model.specs.Accesses.{is_far, is_inside}
use Rattle.ob_model.specs.Descriptors.{Pair, Slots, free_slot, is_dying, pair_count, pair_in, put_slot, slot_of, surviving_pairs, vacant, with_pair, word_of}
use Rattle.ob_model.specs.Entries.{Known, known_of}
use Rattle.ob_model.specs.Objects.{is_among}
use Rattle.ob_model.specs.Pointers as moves
use Rattle.ob_model.specs.Pointers.{Moved, moved_by}
use Rattle.ob_code.specs.Allocation as allocation
use Rattle.ob_code.specs.Allocation.{allocated_at, space_after_free}
use Rattle.ob_code.specs.declared.image.FunctionRow.{FunctionRow}
use Rattle.ob_code.specs.Frames.{entered, function_at, left_call, next_base}
use Rattle.ob_code.specs.Pointers.{Target, base_of, no_slot, placed, pointer_of, resolve, shift, shifted, size_of, slot_for, too_far}
use Rattle.ob_code.specs.Standing.{IsDead, Stands, StandsForKnown, StandsForPointer}
use Rattle.ob_code.specs.State.{Call, Space, after_death, after_freeing}
use Rattle.ob_standing.specs.Laws.{AllocationsKeep, AreGivenOut, CallsKeep, FreesKeep, IsGivenOut, KeepsStanding, KeepsWhenShifted, MovesKeep, OtherChangesKeep, ReturnsKeep}
use Rattle.ob_standing.proofs.Objects.{SameEntries, found_is, known_freed, known_leaves, known_locals, known_more, known_stays, number_is}

-- ---- a pointer, where its object is known as before and its slots are kept

abbrev KeepsSlots : ℕ → Space → Space → Type 0
KeepsSlots object s t = (slot n : ℕ) (offset : ℤ) → n ≡ object → pair_in s.slots slot ≡ Some (n, offset) → pair_in t.slots slot ≡ Some (n, offset)

known_kept : (b : Bool) (s t : Space) (w object : ℕ) (offset : ℤ) (k l : Known) → k.entry ≡ l.entry → k.entry.object ≡ object → KeepsSlots object s t → StandsForKnown b s w k offset → StandsForKnown b t w l offset
known_kept true s t w object offset k l same number slots stands = stands ∙ ap (λ (e : Entry). e.base + unsigned_abs offset) same
known_kept false s t w object offset k l same number slots stands =
    let R : ℕ → Type 0 = λ n. pair_in t.slots stands.0 ≡ Some (n, offset) in
    (stands.0, subst R (ap (λ (e : Entry). e.object) same) (slots stands.0 k.entry.object offset number stands.1), stands.2)

pointer_kept : (o p : Option Known) (s t : Space) (w object : ℕ) (offset : ℤ) → known_of object s.entries ≡ o → known_of object t.entries ≡ p → SameEntries o p → s.next ≤ t.next → KeepsSlots object s t → StandsForPointer o s w object offset → StandsForPointer p t w object offset
pointer_kept None None s t w object offset before after same order slots stands = ((stands.0.0, omega (arith, stands.0.1, order), after), stands.1)
pointer_kept None (Some l) s t w object offset before after same order slots stands = absurd same
pointer_kept (Some k) None s t w object offset before after same order slots stands = absurd same
pointer_kept (Some k) (Some l) s t w object offset before after same order slots stands =
    let kept = known_kept (is_inside k.entry.size offset 0) s t w object offset k l same (number_is s.entries object k before) slots stands in
    let R : ℕ → Type 0 = λ size. StandsForKnown (is_inside size offset 0) t w l offset in
    subst R (ap (λ (e : Entry). e.size) same) kept

same_itself : (o : Option Known) → SameEntries o o
same_itself None = tt
same_itself (Some k) = refl

same_known : (o p : Option Known) → p ≡ o → SameEntries o p
same_known o p is = (let R : Option Known → Type 0 = λ q. SameEntries o q in subst R (sym is) (same_itself o))

by_object : (s t : Space) (w object : ℕ) (offset : ℤ) → SameEntries (known_of object s.entries) (known_of object t.entries) → s.next ≤ t.next → KeepsSlots object s t → Stands s w (value.Ptr object offset) → Stands t w (value.Ptr object offset)
by_object s t w object offset same order slots stands =
    pointer_kept (known_of object s.entries) (known_of object t.entries) s t w object offset refl refl same order slots stands

-- a word that stands for a pointer is of an object that was made
was_made : (o : Option Known) (s : Space) (w object : ℕ) (offset : ℤ) → AreGivenOut s → known_of object s.entries ≡ o → StandsForPointer o s w object offset → (1 ≤ object) × (object < s.next)
was_made None s w object offset given is stands = (stands.0.0, stands.0.1)
was_made (Some k) s w object offset given is stands =
    let both = found_is (IsGivenOut s.next) (λ (x : Known). x.entry.object == object) s.entries k given is in
    let number = number_is s.entries object k is in
    (omega (arith, both.0.1, number), omega (arith, both.0.2, number))

-- ---- other changes

pub other_changes : OtherChangesKeep
other_changes s t entries slots next w (value.Num n) stands = stands
other_changes s t entries slots next w value.Null stands = stands
other_changes s t entries slots next w (value.Ptr object offset) stands =
    by_object s t w object offset
    (same_known (known_of object s.entries) (known_of object t.entries) (ap (known_of object) entries))
    (omega (arith, next))
    (λ slot n place same held. ap (λ (ss : Slots). pair_in ss slot) slots ∙ held) stands

-- ---- moves

put_kept : (v : Option ℕ) (pair : Pair) (slots : Slots) (k : ℕ) (other : Pair) → vacant slots ≡ v → pair_in slots k ≡ Some other → pair_in (put_slot v pair slots) k ≡ Some other
put_kept None pair slots k other is held =
    ⊎_elim
    (λ inside. get_or_append_left slots (Some pair ∷ []) None k inside ∙ held)
    (λ past. absurd (let none : pair_in slots k ≡ None = get_or_past slots k None past in cc))
    (cases_lt k (length slots))
put_kept (Some v) pair slots k other is held =
    let free = (position-Some is_none slots v None is).1 in
    get_or-set_other slots v k (Some pair) None
    (λ same. let here : is_none (pair_in slots k) ≡ true = ap (λ (i : ℕ). is_none (pair_in slots i)) same ∙ free in
    let there : is_none (pair_in slots k) ≡ false = ap is_none held in cc)
    ∙ held

abbrev with_slots : Slots → Space → Space
with_slots slots s = record s { slots = slots }

slots_grow : (s : Space) (slots : Slots) → ((k : ℕ) (other : Pair) → pair_in s.slots k ≡ Some other → pair_in slots k ≡ Some other) → KeepsStanding s (with_slots slots s)
slots_grow s slots kept w (value.Num n) stands = stands
slots_grow s slots kept w value.Null stands = stands
slots_grow s slots kept w (value.Ptr object offset) stands =
    by_object s (with_slots slots s) w object offset (same_itself (known_of object s.entries)) (omega arith) (λ slot n place same held. kept slot (n, place) held) stands

stays : (s : Space) → KeepsStanding s s
stays s w v stands = stands

new_either : (b : Bool) (s : Space) (pair : Pair) (w : ℕ) → KeepsWhenShifted s (if b then shifted w (with_slots (with_pair pair s.slots) s) else no_slot)
new_either true s pair w = slots_grow s (with_pair pair s.slots) (λ k other held. put_kept (vacant s.slots) pair s.slots k other refl held)
new_either false s pair w = tt

slot_either : (v : Option ℕ) (away : ℕ) (pair : Pair) (s : Space) → KeepsWhenShifted s (slot_for v away pair s)
slot_either (Some k) away pair s = stays s
slot_either None away pair s = new_either (nat_lt (pair_count s.slots) away) s pair (word_of (free_slot s.slots))

placed_keeps : (m : Moved) (away base : ℕ) (s : Space) → KeepsWhenShifted s (placed away base m s)
placed_keeps moves.stays_null away base s = stays s
placed_keeps moves.too_far away base s = tt
placed_keeps (moves.in_bounds object offset) away base s = stays s
placed_keeps (moves.out_of_bounds object offset) away base s = slot_either (slot_of s.slots (object, offset)) away (object, offset) s

far_either : (b : Bool) (away : ℕ) (t : Target) (d : ℤ) (s : Space) → KeepsWhenShifted s (if b then too_far else placed away (base_of t) (moved_by (size_of t) (pointer_of t) d) s)
far_either true away t d s = tt
far_either false away t d s = placed_keeps (moved_by (size_of t) (pointer_of t) d) away (base_of t) s

pub moves_keep : MovesKeep
moves_keep away s w d = far_either (is_far d) away (resolve s w) d s

-- ---- new objects

pub calls_keep : CallsKeep
calls_keep functions f link s given w (value.Num n) stands = stands
calls_keep functions f link s given w value.Null stands = stands
calls_keep functions f link s given w (value.Ptr object offset) stands =
    let made = was_made (known_of object s.entries) s w object offset given refl stands in
    by_object s (entered functions f link s) w object offset
    (same_known (known_of object s.entries) (known_of object (entered functions f link s).entries)
    (known_locals object (next_base functions s.calls) s.next (function_at functions f).locals s.entries made.1))
    (omega arith)
    (λ slot n place same held. held) stands

pub allocations_keep : AllocationsKeep
allocations_keep None n s given w v stands = stands
allocations_keep (Some place) n s given w (value.Num number) stands = stands
allocations_keep (Some place) n s given w value.Null stands = stands
allocations_keep (Some place) n s given w (value.Ptr object offset) stands =
    let made = was_made (known_of object s.entries) s w object offset given refl stands in
    by_object s (allocated_at (Some place) n s) w object offset
    (same_known (known_of object s.entries) (known_of object (allocated_at (Some place) n s).entries) (known_more object _ s.entries made.1))
    (omega arith)
    (λ slot k at same held. held) stands

-- ---- death

-- a live object's word is not 0
known_nonzero : (b : Bool) (s : Space) (w : ℕ) (k : Known) (offset : ℤ) → 1 ≤ k.entry.base → StandsForKnown b s w k offset → w ≢ 0
known_nonzero true s w k offset based stands zero = omega (arith, stands, based, zero)
known_nonzero false s w k offset based stands zero = omega (arith, stands.2, zero)

pointer_nonzero : (o : Option Known) (s : Space) (w object : ℕ) (offset : ℤ) → AreGivenOut s → known_of object s.entries ≡ o → StandsForPointer o s w object offset → w ≢ 0
pointer_nonzero None s w object offset given is stands = stands.1
pointer_nonzero (Some k) s w object offset given is stands =
    let both = found_is (IsGivenOut s.next) (λ (x : Known). x.entry.object == object) s.entries k given is in
    known_nonzero (is_inside k.entry.size offset 0) s w k offset both.0.0 stands

survives : (dies : ℕ → Bool) (slots : Slots) (slot n : ℕ) (offset : ℤ) → dies n ≡ false → pair_in slots slot ≡ Some (n, offset) → pair_in (surviving_pairs dies slots) slot ≡ Some (n, offset)
survives dies slots slot n offset lives held =
    get_or-map (λ (o : Option Pair). if is_dying dies o then None else o) slots slot None
    ∙ ap (λ (o : Option Pair). if is_dying dies o then None else o) held
    ∙ cond-false (dies n) None (Some (n, offset)) lives

pub death_keeps : (dies : ℕ → Bool) (s : Space) → AreGivenOut s → KeepsStanding s (after_death dies s)
death_keeps dies s given w (value.Num n) stands = stands
death_keeps dies s given w value.Null stands = stands
death_keeps dies s given w (value.Ptr object offset) stands =
    ⊎_elim
    (λ dead.
    let made = was_made (known_of object s.entries) s w object offset given refl stands in
    let gone : known_of object (after_death dies s).entries ≡ None = known_leaves dies object s.entries dead in
    let R : Option Known → Type 0 = λ o. StandsForPointer o (after_death dies s) w object offset in
    let last : R None = ((made.0, made.1, gone), pointer_nonzero (known_of object s.entries) s w object offset given refl stands) in
    subst R (sym gone) last)
    (λ lives.
    by_object s (after_death dies s) w object offset
    (same_known (known_of object s.entries) (known_of object (after_death dies s).entries) (known_stays dies object s.entries lives))
    (omega arith)
    (λ slot n place same held. survives dies s.slots slot n place (ap dies same ∙ lives) held) stands)
    (cases_Bool (dies object))

pub freeing_keeps : (object : ℕ) (s : Space) → KeepsStanding s (after_freeing object s)
freeing_keeps object s w (value.Num n) stands = stands
freeing_keeps object s w value.Null stands = stands
freeing_keeps object s w (value.Ptr number offset) stands =
    by_object s (after_freeing object s) w number offset (known_freed object number s.entries) (omega arith) (λ slot n place same held. held) stands

pub returns_keep : ReturnsKeep
returns_keep functions c cs s given w v stands =
    other_changes (after_death (is_among c.first (function_at functions c.function).vars) s) (left_call functions c cs s) refl refl refl w v
    (death_keeps (is_among c.first (function_at functions c.function).vars) s given w v stands)

pub frees_keep : FreesKeep
frees_keep profile allocation.no_effect s given w v stands = stands
frees_keep One (allocation.own object) s given w v stands = death_keeps (λ other. other == object) s given w v stands
frees_keep Two (allocation.own object) s given w v stands = freeing_keeps object s w v stands
frees_keep profile (allocation.stray object offset) s given w v stands = stands
