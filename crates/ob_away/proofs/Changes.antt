-- What a table keeps while a pair enters and while an object's pairs leave.
use Rattle.std.proofs.Common.{◌≡◌, ◌==◌, ℕ, suc, ◌<◌, ◌⊎◌, false, length, set, [], ◌∷◌, arith, Option, Some, None, ap, ⊎_elim, inl, inr, sym, ◌∙◌, get_or-set_same, get_or-set_other, refl, if◌then◌else◌}
use Rattle.std.proofs.lemmas.Bool.{cases_eq, cases_Bool, both_ways, eq-eqb, ne_eqb, cond-true, cond-false}
use Rattle.std.proofs.Math.ListN.{get_or-map}
use Rattle.ob_model.specs.Descriptors.{Pair, Slots, IsInterned, holds, slot_of, pair_in}
use Rattle.ob_away.specs.Slots.{is_of, without}
use Rattle.ob_away.specs.Kept.{Index, named, IsIndexed}
use Rattle.ob_away.proofs.Positions.{none_before}
use Rattle.ob_away.proofs.Pairs.{within_slots, same_pair-same}

-- slots that read the same
pub IsInterned-same : (slots others : Slots) → ((k : ℕ) → pair_in others k ≡ pair_in slots k) → IsInterned slots → IsInterned others
IsInterned-same slots others same interned i j pair at_i at_j = interned i j pair (sym (same i) ∙ at_i) (sym (same j) ∙ at_j)

pub IsIndexed-same : (index : Index) (slots others : Slots) → ((k : ℕ) → pair_in others k ≡ pair_in slots k) → IsIndexed index slots → IsIndexed index others
IsIndexed-same index slots others same indexed = record { by_slot = λ k pair held. indexed.by_slot k pair (sym (same k) ∙ held) }

-- after a pair was put into slot s, a slot that holds a pair is slot s or held it before
pub entered : (slots : Slots) (s : ℕ) (pair : Pair) (k : ℕ) (other : Pair) → s < length slots → pair_in (set slots s (Some pair)) k ≡ Some other → ((k ≡ s) × (other ≡ pair)) ⊎ (pair_in slots k ≡ Some other)
entered slots s pair k other within held =
    ⊎_elim
    (λ same. inl (same, (let e : Some other ≡ Some pair = sym held ∙ ap (pair_in (set slots s (Some pair))) same ∙ get_or-set_same slots s (Some pair) None within in cc)))
    (λ apart. inr (sym (get_or-set_other slots s k (Some pair) None apart) ∙ held))
    (cases_eq k s)

unlisted : (slots : Slots) (pair : Pair) (k : ℕ) → slot_of slots pair ≡ None → pair_in slots k ≡ Some pair → ⊥
unlisted slots pair k absent held =
    both_ways (holds pair (pair_in slots k))
    (none_before (holds pair) slots None absent k (within_slots slots k pair held))
    (ap (holds pair) held ∙ same_pair-same pair)

pub IsInterned-entered : (slots : Slots) (s : ℕ) (pair : Pair) → s < length slots → slot_of slots pair ≡ None → IsInterned slots → IsInterned (set slots s (Some pair))
IsInterned-entered slots s pair within absent interned i j other at_i at_j =
    ⊎_elim
    (λ here. ⊎_elim
    (λ there. here.0 ∙ sym there.0)
    (λ there. absurd (unlisted slots pair j absent (there ∙ ap Some here.1)))
    (entered slots s pair j other within at_j))
    (λ here. ⊎_elim
    (λ there. absurd (unlisted slots pair i absent (here ∙ ap Some there.1)))
    (λ there. interned i j other here there)
    (entered slots s pair j other within at_j))
    (entered slots s pair i other within at_i)

pub IsIndexed-entered : (index : Index) (slots : Slots) (s : ℕ) (pair : Pair) → s < length slots → named index pair ≡ Some s → IsIndexed index slots → IsIndexed index (set slots s (Some pair))
IsIndexed-entered index slots s pair within at_s indexed = record {
  by_slot = λ k other held.
      ⊎_elim
      (λ here. ap (named index) here.1 ∙ at_s ∙ ap Some (sym here.0))
      (λ before. indexed.by_slot k other before)
      (entered slots s pair k other within held);
}

-- what a slot holds once an object's slots are freed
kept_some : (object : ℕ) (slot : Option Pair) (pair : Pair) → (if is_of object slot then None else slot) ≡ Some pair → (slot ≡ Some pair) × (object ≡ pair.0 → ⊥)
kept_some object None pair is = absurd cc
kept_some object (Some other) pair is =
    ⊎_elim
    (λ own. absurd (let e : None ≡ Some pair = sym (cond-true (object == other.0) None (Some other) own) ∙ is in cc))
    (λ foreign.
    let same : Some other ≡ Some pair = sym (cond-false (object == other.0) None (Some other) foreign) ∙ is in
    let e : other ≡ pair = cc in
    (same, (λ owner. both_ways (object == other.0) foreign (eq-eqb object other.0 (owner ∙ ap (λ (p : Pair). p.0) (sym e))))))
    (cases_Bool (object == other.0))

pub pair_in-without : (object : ℕ) (slots : Slots) (k : ℕ) → pair_in (without object slots) k ≡ (if is_of object (pair_in slots k) then None else pair_in slots k)
pair_in-without object slots k = get_or-map (λ slot. if is_of object slot then None else slot) slots k None

pub held_without : (object : ℕ) (slots : Slots) (k : ℕ) (pair : Pair) → pair_in (without object slots) k ≡ Some pair → (pair_in slots k ≡ Some pair) × (object ≡ pair.0 → ⊥)
held_without object slots k pair held = kept_some object (pair_in slots k) pair (sym (pair_in-without object slots k) ∙ held)

pub IsInterned-without : (object : ℕ) (slots : Slots) → IsInterned slots → IsInterned (without object slots)
IsInterned-without object slots interned i j pair at_i at_j = interned i j pair (held_without object slots i pair at_i).0 (held_without object slots j pair at_j).0

pub IsIndexed-without : (object : ℕ) (index : Index) (slots : Slots) → IsIndexed index slots → IsIndexed index (without object slots)
IsIndexed-without object index slots indexed = record { by_slot = λ k pair held. indexed.by_slot k pair (held_without object slots k pair held).0 }

pub without-none : (object : ℕ) (slots : Slots) → ((k : ℕ) (pair : Pair) → pair_in slots k ≡ Some pair → object ≡ pair.0 → ⊥) → without object slots ≡ slots
without-none object [] none = refl
without-none object (None ∷ slots) none = ap (λ (xs : Slots). None ∷ xs) (without-none object slots (λ k pair held owner. none (suc k) pair held owner))
without-none object (Some other ∷ slots) none =
    let foreign : (object == other.0) ≡ false = ne_eqb object other.0 (λ owner. none 0 other refl owner) in
    ap (λ (slot : Option Pair). slot ∷ without object slots) (cond-false (object == other.0) None (Some other) foreign)
    ∙ ap (λ (xs : Slots). Some other ∷ xs) (without-none object slots (λ k pair held owner. none (suc k) pair held owner))

pub IsInterned-none : (slots : Slots) → slots ≡ [] → IsInterned slots
IsInterned-none slots none i j pair at_i at_j = absurd (omega (arith, within_slots slots i pair at_i, ap length none))

pub IsIndexed-none : (index : Index) (slots : Slots) → slots ≡ [] → IsIndexed index slots
IsIndexed-none index slots none = record { by_slot = λ k pair held. absurd (omega (arith, within_slots slots k pair held, ap length none)) }
