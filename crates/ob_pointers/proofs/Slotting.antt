-- The slots' pairs name objects by their bases, and callers see them by their numbers: what is said of the ones is said of the
-- others.
use Rattle.std.proofs.Common.{◌≡◌, ◌==◌, ◌&&◌, ℕ, zero, suc, ◌<◌, ◌≤◌, ◌⊎◌, ◌↔◌, ℤ, Bool, ltb, List, [], ◌∷◌, ◌++◌, length, set, map, Option, Some, None, Result, Ok, Err, unwrap_or, ap, subst, ⊎_elim, inl, inr, sym, ◌∙◌, refl}
use Rattle.std.specs.Prelude.{IsErr, OnErr, IfSome, is_some, is_none}
use Rattle.std.specs.List.{Contains}
use Rattle.std.specs.Option.{option_map, ForSome}
use Rattle.std.specs.Ordering.{int_eq}
use Rattle.std.proofs.lemmas.Bool.{false≢true, cases_eq, cases_lt, cond-true, cond-false, eq-eqb, ne_eqb, lt-ltb, le-ltb}
use Rattle.std.proofs.lemmas.List.{map-append, map-set, length-map}
use Rattle.std.proofs.lemmas.List.Elements.{Contains-push_cases}
use Rattle.ob_model.specs.declared.objects.Entry.{Entry}
use Rattle.ob_model.specs.Descriptors.{Pair, Slots, holds, slot_of, pair_count, vacant, free_slot, put_slot, with_pair, word_of}
use Rattle.ob_code.specs.Pointers as pointers
use Rattle.ob_code.specs.Pointers.{Shifted, slot_for, new_slot}
use Rattle.ob_code.specs.State.{Space}
use Rattle.ob_access.specs.declared.pointee.Pointee.{Pointee}
use Rattle.ob_access.specs.declared.shift.Shift.{Shift}
use Rattle.ob_access.specs.declared.shift.Shift.TheVariants.{OutOfBounds}
use Rattle.ob_access.specs.Pointees.{target_of}
use Rattle.ob_away.specs.declared.table.Full.{Full}
use Rattle.ob_away.specs.Slots.{Descriptors}
use Rattle.ob_away.specs.Enters.{Enters}
use Rattle.ob_objects.specs.Objects.{Objects}
use Rattle.ob_pointers.specs.declared.pointers.ShiftAnswer.{ShiftAnswer}
use Rattle.ob_pointers.specs.declared.pointers.ShiftAnswer.TheVariants as answer
use Rattle.ob_pointers.specs.Pointing.{Pointing, with_pointing, as_shifted}
use Rattle.ob_pointers.specs.Placing.{IsSlotted, IsMoveOf, Places, as_answer}
use Rattle.ob_pointers.specs.Kept.{IsKept, Begins, numbered, number_at, slots_in, pointing_in}
use Rattle.ob_pointers.proofs.Lists.{here, later, here_or_later, position_mapped, count_mapped}
use Rattle.ob_pointers.proofs.Known.{one_base, one_number, number_at_its_base}

-- two objects have one number where they have one base
pub same_tests : (entries : List Entry) (marks : List Bool) (slots : Slots) (heap : ℕ) → IsKept entries marks slots heap → (e f : Entry) → Contains entries e → Contains entries f → (e.object == f.object) ≡ (e.base == f.base)
same_tests entries marks slots heap kept e f at_e at_f =
    ⊎_elim
    (λ same. eq-eqb e.object f.object (ap (λ (g : Entry). g.object) (one_base entries kept.in_order e f at_e at_f same)) ∙ sym (eq-eqb e.base f.base same))
    (λ apart. ne_eqb e.object f.object (λ same. apart (ap (λ (g : Entry). g.base) (one_number entries kept.numbers e f at_e at_f same))) ∙ sym (ne_eqb e.base f.base apart))
    (cases_eq e.base f.base)

-- ---- lists of slots

renames : (entries : List Entry) → Option Pair → Option Pair
renames entries slot = option_map (numbered entries) slot

still_some : (f : Pair → Pair) (slot : Option Pair) → is_some (option_map f slot) ≡ is_some slot
still_some f None = refl
still_some f (Some pair) = refl

still_none : (f : Pair → Pair) (slot : Option Pair) → is_none (option_map f slot) ≡ is_none slot
still_none f None = refl
still_none f (Some pair) = refl

pub count_renamed : (entries : List Entry) (slots : Slots) → pair_count (slots_in entries slots) ≡ pair_count slots
count_renamed entries slots = count_mapped (option_map (numbered entries)) is_some is_some slots (λ slot at. still_some (numbered entries) slot)

pub vacant_renamed : (entries : List Entry) (slots : Slots) → vacant (slots_in entries slots) ≡ vacant slots
vacant_renamed entries slots = position_mapped (option_map (numbered entries)) is_none is_none slots (λ slot at. still_none (numbered entries) slot)

pub free_renamed : (entries : List Entry) (slots : Slots) → free_slot (slots_in entries slots) ≡ free_slot slots
free_renamed entries slots =
    ap (λ (o : Option ℕ). unwrap_or o (length (slots_in entries slots))) (vacant_renamed entries slots)
    ∙ ap (unwrap_or (vacant slots)) (length-map slots (option_map (numbered entries)))

put_renamed : (f : Pair → Pair) (o : Option ℕ) (pair renamed : Pair) (slots : Slots) → f pair ≡ renamed → map (option_map f) (put_slot o pair slots) ≡ put_slot o renamed (map (option_map f) slots)
put_renamed f None pair renamed slots is = map-append (option_map f) slots (Some pair ∷ []) ∙ ap (λ (p : Pair). map (option_map f) slots ++ Some p ∷ []) is
put_renamed f (Some k) pair renamed slots is = map-set (option_map f) slots k (Some pair) ∙ ap (λ (p : Pair). set (map (option_map f) slots) k (Some p)) is

-- ---- what a put leaves

set_cases : {X : Type 0} (xs : List X) (k : ℕ) (v x : X) → Contains (set xs k v) x → Contains xs x ⊎ (v ≡ x)
set_cases [] k v x among = inl among
set_cases (y ∷ ys) zero v x among = ⊎_elim (λ same. inr same) (λ rest. inl (later y ys x rest)) (here_or_later v ys x among)
set_cases {X} (y ∷ ys) (suc k) v x among =
    ⊎_elim
    (λ same. inl (subst (λ (z : X). Contains (y ∷ ys) z) same (here y ys)))
    (λ rest. ⊎_elim (λ before. inl (later y ys x before)) (λ new. inr new) (set_cases ys k v x rest))
    (here_or_later y (set ys k v) x among)

put_cases : (o : Option ℕ) (pair : Pair) (slots : Slots) (slot : Option Pair) → Contains (put_slot o pair slots) slot → Contains slots slot ⊎ (Some pair ≡ slot)
put_cases None pair slots slot among = Contains-push_cases slots (Some pair) slot among
put_cases (Some k) pair slots slot among = set_cases slots k (Some pair) slot among

pub kept_with_slots : (entries : List Entry) (marks : List Bool) (slots others : Slots) (heap : ℕ) → IsKept entries marks slots heap → ((pair : Pair) → Contains others (Some pair) → Begins entries pair.0) → IsKept entries marks others heap
kept_with_slots entries marks slots others heap kept bases = record {
  in_order = kept.in_order;
  numbers = kept.numbers;
  near = kept.near;
  places = kept.places;
  bases = bases;
  marked = kept.marked;
  room = kept.room;
}

pub kept_with_pair : (entries : List Entry) (marks : List Bool) (slots : Slots) (heap : ℕ) (pair : Pair) → IsKept entries marks slots heap → Begins entries pair.0 → IsKept entries marks (with_pair pair slots) heap
kept_with_pair entries marks slots heap pair kept begins =
    kept_with_slots entries marks slots (with_pair pair slots) heap kept
    (λ other among. ⊎_elim
    (λ before. kept.bases other before)
    (λ new. let same : pair ≡ other = cc in subst (λ (p : Pair). Begins entries p.0) same begins)
    (put_cases (vacant slots) pair slots (Some other) among))

-- ---- one object's pair

module _ (entries : List Entry) (marks : List Bool) (slots : Slots) (heap : ℕ) (kept : IsKept entries marks slots heap) (e : Entry) (among : Contains entries e) (offset : ℤ) where
  held_renamed : (slot : Option Pair) → Contains slots slot → holds (e.object, offset) (option_map (numbered entries) slot) ≡ holds (e.base, offset) slot
  held_renamed None at = refl
  held_renamed (Some pair) at =
      let begins = kept.bases pair at in
      let number : number_at entries pair.0 ≡ begins.entry.object = ap (number_at entries) (sym begins.there) ∙ number_at_its_base entries kept.in_order begins.entry begins.among in
      ap (λ n. (e.object == n) && int_eq offset pair.1) number
      ∙ ap (λ b. b && int_eq offset pair.1) (same_tests entries marks slots heap kept e begins.entry among begins.among)
      ∙ ap (λ n. (e.base == n) && int_eq offset pair.1) begins.there

  pub slot_renamed : slot_of (slots_in entries slots) (e.object, offset) ≡ slot_of slots (e.base, offset)
  slot_renamed = position_mapped (option_map (numbered entries)) (holds (e.object, offset)) (holds (e.base, offset)) slots held_renamed

  pub with_renamed : slots_in entries (with_pair (e.base, offset) slots) ≡ with_pair (e.object, offset) (slots_in entries slots)
  with_renamed =
      put_renamed (numbered entries) (vacant slots) (e.base, offset) (e.object, offset) slots (ap (λ n. (n, offset)) (number_at_its_base entries kept.in_order e among))
      ∙ ap (λ (o : Option ℕ). put_slot o (e.object, offset) (slots_in entries slots)) (sym (vacant_renamed entries slots))

-- ---- a word for a pair

-- what a call that seeks a pair's word says
pub record IsSought (old new : Descriptors) (word : Result ℕ Full) (pair : Pair) : Type 0 where
  pub listed : IfSome (slot_of old.slots pair) (λ k. (word ≡ Ok (word_of k)) × (new ≡ old))
  pub entered : slot_of old.slots pair ≡ None → pair_count old.slots < old.limit → Enters old new word pair
  pub full : IsErr word ↔ ((slot_of old.slots pair ≡ None) × (old.limit ≤ pair_count old.slots))
  pub unchanged : OnErr word (new ≡ old)

-- the pair was listed, or it takes a slot, or no slot is left
pub data Outcome (old new : Descriptors) (word : Result ℕ Full) (pair : Pair) : Type 0 where
  is_listed : (k : ℕ) → slot_of old.slots pair ≡ Some k → word ≡ Ok (word_of k) → new ≡ old → Outcome old new word pair
  is_entered : slot_of old.slots pair ≡ None → pair_count old.slots < old.limit → Enters old new word pair → Outcome old new word pair
  is_refused : slot_of old.slots pair ≡ None → old.limit ≤ pair_count old.slots → as_answer word ≡ Err answer.Full → new ≡ old → Outcome old new word pair

refused : (old new : Descriptors) (word : Result ℕ Full) → IsErr word → OnErr word (new ≡ old) → (as_answer word ≡ Err answer.Full) × (new ≡ old)
refused old new (Ok w) error unchanged = absurd (false≢true error)
refused old new (Err full) error unchanged = (refl, unchanged)

outcome_by : (old new : Descriptors) (word : Result ℕ Full) (pair : Pair) (o : Option ℕ) → slot_of old.slots pair ≡ o → IsSought old new word pair → Outcome old new word pair
outcome_by old new word pair (Some k) is sought =
    let both = subst (λ (p : Option ℕ). IfSome p (λ k. (word ≡ Ok (word_of k)) × (new ≡ old))) is sought.listed in
    is_listed k is both.0 both.1
outcome_by old new word pair None is sought =
    ⊎_elim
    (λ less. is_entered is less (sought.entered is less))
    (λ enough. let no = refused old new word (sought.full.1 (is, enough)) sought.unchanged in is_refused is enough no.0 no.1)
    (cases_lt (pair_count old.slots) old.limit)

pub outcome_of : (old new : Descriptors) (word : Result ℕ Full) (pair : Pair) → IsSought old new word pair → Outcome old new word pair
outcome_of old new word pair sought = outcome_by old new word pair (slot_of old.slots pair) refl sought

-- what the objects and slots are then
pub kept_by : (entries : List Entry) (marks : List Bool) (heap : ℕ) (old new : Descriptors) (word : Result ℕ Full) (pair : Pair) → IsKept entries marks old.slots heap → Begins entries pair.0 → Outcome old new word pair → IsKept entries marks new.slots heap
kept_by entries marks heap old new word pair kept begins (is_listed k at is same) = subst (λ (d : Descriptors). IsKept entries marks d.slots heap) (sym same) kept
kept_by entries marks heap old new word pair kept begins (is_entered at less enters) = subst (λ (d : Descriptors). IsKept entries marks d.slots heap) (sym enters.slots) (kept_with_pair entries marks old.slots heap pair kept begins)
kept_by entries marks heap old new word pair kept begins (is_refused at enough is same) = subst (λ (d : Descriptors). IsKept entries marks d.slots heap) (sym same) kept

pub limit_by : (old new : Descriptors) (word : Result ℕ Full) (pair : Pair) → Outcome old new word pair → new.limit ≡ old.limit
limit_by old new word pair (is_listed k at is same) = ap (λ (d : Descriptors). d.limit) same
limit_by old new word pair (is_entered at less enters) = ap (λ (d : Descriptors). d.limit) enters.slots
limit_by old new word pair (is_refused at enough is same) = ap (λ (d : Descriptors). d.limit) same

-- ---- the definition's answer

slot_for_none : (away : ℕ) (pair : Pair) (s : Space) (o : Option ℕ) → o ≡ None → slot_for o away pair s ≡ new_slot away pair s
slot_for_none away pair s o is = ap (λ (p : Option ℕ). slot_for p away pair s) is

module _ (objects : Objects) (marks : List Bool) (heap : ℕ) (old : Descriptors) (kept : IsKept objects.entries marks old.slots heap) (e : Entry) (among : Contains objects.entries e) (offset : ℤ) where
  seen : Descriptors → Pointing
  seen d = pointing_in objects marks d heap

  slotted_by : (new : Descriptors) (word : Result ℕ Full) → Outcome old new word (e.base, offset) → IsSlotted (e.object, offset) (seen old) (as_answer word) (seen new)
  unfolding seen
  slotted_by new word (is_listed k at is same) s =
      ap (λ (o : Option ℕ). slot_for o old.limit (e.object, offset) (with_pointing (seen old) s)) (slot_renamed objects.entries marks old.slots heap kept e among offset ∙ at)
      ∙ ap (λ (d : Descriptors). as_shifted (Ok (word_of k)) (with_pointing (seen d) s)) (sym same)
      ∙ ap (λ (r : Result ℕ Full). as_shifted (as_answer r) (with_pointing (seen new) s)) (sym is)
  slotted_by new word (is_entered at less enters) s =
      slot_for_none old.limit (e.object, offset) (with_pointing (seen old) s) (slot_of (slots_in objects.entries old.slots) (e.object, offset)) (slot_renamed objects.entries marks old.slots heap kept e among offset ∙ at)
      ∙ cond-true (ltb (pair_count (slots_in objects.entries old.slots)) old.limit) _ _ (ap (λ n. ltb n old.limit) (count_renamed objects.entries old.slots) ∙ lt-ltb (pair_count old.slots) old.limit less)
      ∙ ap (λ n. pointers.shifted (word_of n) (with_pointing (record (seen old) { slots = with_pair (e.object, offset) (slots_in objects.entries old.slots) }) s)) (free_renamed objects.entries old.slots)
      ∙ ap (λ (slots : Slots). as_shifted (Ok (word_of (free_slot old.slots))) (with_pointing (record (seen old) { slots = slots }) s)) (sym (with_renamed objects.entries marks old.slots heap kept e among offset))
      ∙ ap (λ (d : Descriptors). as_shifted (Ok (word_of (free_slot old.slots))) (with_pointing (seen d) s)) (sym enters.slots)
      ∙ ap (λ (r : Result ℕ Full). as_shifted (as_answer r) (with_pointing (seen new) s)) (sym enters.word)
  slotted_by new word (is_refused at enough is same) s =
      slot_for_none old.limit (e.object, offset) (with_pointing (seen old) s) (slot_of (slots_in objects.entries old.slots) (e.object, offset)) (slot_renamed objects.entries marks old.slots heap kept e among offset ∙ at)
      ∙ cond-false (ltb (pair_count (slots_in objects.entries old.slots)) old.limit) _ _ (ap (λ n. ltb n old.limit) (count_renamed objects.entries old.slots) ∙ le-ltb (pair_count old.slots) old.limit enough)
      ∙ ap (λ (r : Result ℕ ShiftAnswer). as_shifted r (with_pointing (seen new) s)) (sym is)

  pub slotted : (new : Descriptors) (word : Result ℕ Full) → Outcome old new word (e.base, offset) → IsSlotted (e.object, offset) (pointing_in objects marks old heap) (as_answer word) (pointing_in objects marks new heap)
  unfolding seen
  slotted new word outcome = slotted_by new word outcome

-- the same where the call was given the offset in another form
pub outcome_at : (old new : Descriptors) (word : Result ℕ Full) (base : ℕ) (given offset : ℤ) → given ≡ offset → IsSought old new word (base, given) → Outcome old new word (base, offset)
outcome_at old new word base given offset same sought =
    outcome_of old new word (base, offset) (subst (λ (z : ℤ). IsSought old new word (base, z)) same sought)

-- ---- a pointer that goes out of bounds

goes_out : (pointer : Option Pointee) (object : ℕ) (offset : ℤ) (old new : Pointing) (r : Result ℕ ShiftAnswer) → IsMoveOf (target_of pointer) (OutOfBounds object offset) → ForSome pointer (λ p. IsSlotted (p.entry.object, offset) old r new) → Places (target_of pointer) (OutOfBounds object offset) old r new
goes_out None object offset old new r goes done s = elim goes [ ]
goes_out (Some p) object offset old new r goes done s =
    ap (λ n. slot_for (slot_of old.slots (n, offset)) old.away (n, offset) (with_pointing old s)) goes ∙ done p refl s

pub placed_out : (pointer : Option Pointee) (to : Shift) (object : ℕ) (given offset : ℤ) (old new : Pointing) (r : Result ℕ ShiftAnswer) → to ≡ OutOfBounds object offset → given ≡ offset → IsMoveOf (target_of pointer) to → ForSome pointer (λ p. IsSlotted (p.entry.object, given) old r new) → Places (target_of pointer) to old r new
placed_out pointer to object given offset old new r is same goes done =
    subst (λ (m : Shift). Places (target_of pointer) m old r new) (sym is)
    (goes_out pointer object offset old new r (subst (λ (m : Shift). IsMoveOf (target_of pointer) m) is goes)
    (subst (λ (z : ℤ). ForSome pointer (λ p. IsSlotted (p.entry.object, z) old r new)) same done))
