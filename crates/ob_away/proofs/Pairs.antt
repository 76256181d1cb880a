-- Pairs, and the slots that hold them.
use Rattle.std.proofs.Common.{◌≡◌, ◌==◌, ℕ, ℤ, ◌<◌, true, false, length, arith, Option, Some, None, ap, ⊎_elim, sym, ◌∙◌, refl}
use Rattle.std.specs.Cmp.{signed_Decides}
use Rattle.std.specs.Ordering.{int_eq}
use Rattle.std.proofs.lemmas.Bool.{and_parts, and_from, eq-eqb, eqb-true, both_ways, cases_lt, false_from_ne_true}
use Rattle.std.proofs.lemmas.List.{get_or_past}
use Rattle.ob_model.specs.Descriptors.{Pair, Slots, same_pair, holds, slot_of, pair_in}
use Rattle.ob_away.specs.Kept.{Index, named, IsIndexed}
use Rattle.ob_away.proofs.Positions.{position_is, position_none}

pub same_pair-true : (p q : Pair) → same_pair p q ≡ true → p ≡ q
same_pair-true p q same =
    let parts = and_parts (p.0 == q.0) (int_eq p.1 q.1) same in
    let object : p.0 ≡ q.0 = eqb-true p.0 q.0 parts.0 in
    let offset : p.1 ≡ q.1 = (signed_Decides p.1 q.1).0 parts.1 in
    let of : ℕ → Pair = λ n. (n, p.1) in
    let at : ℤ → Pair = λ z. (q.0, z) in
    ap of object ∙ ap at offset

pub same_pair-same : (p : Pair) → same_pair p p ≡ true
same_pair-same p = and_from (p.0 == p.0) (int_eq p.1 p.1) (eq-eqb p.0 p.0 refl) ((signed_Decides p.1 p.1).1 refl)

pub holds-true : (p : Pair) (slot : Option Pair) → holds p slot ≡ true → slot ≡ Some p
holds-true p None h = cc
holds-true p (Some q) h = ap Some (sym (same_pair-true p q h))

-- a slot that holds a pair is among the slots
pub within_slots : (slots : Slots) (k : ℕ) (pair : Pair) → pair_in slots k ≡ Some pair → k < length slots
within_slots slots k pair held =
    ⊎_elim (λ inside. inside)
    (λ past. absurd (let none : pair_in slots k ≡ None = get_or_past slots k None past in cc))
    (cases_lt k (length slots))

-- the index names the slot that holds the pair
pub slot_of-named : (index : Index) (slots : Slots) (pair : Pair) (k : ℕ) → IsIndexed index slots → named index pair ≡ Some k → holds pair (pair_in slots k) ≡ true → slot_of slots pair ≡ Some k
slot_of-named index slots pair k indexed is_named held =
    position_is (holds pair) slots None k (within_slots slots k pair (holds-true pair _ held)) held
    (λ j less. false_from_ne_true _ (λ also.
    let first : named index pair ≡ Some j = indexed.by_slot j pair (holds-true pair _ also) in
    let same : j ≡ k = cc in
    omega arith))

-- no slot holds the pair where the one that the index names doesn't
pub slot_of-unnamed : (index : Index) (slots : Slots) (pair : Pair) → IsIndexed index slots → ((k : ℕ) → named index pair ≡ Some k → holds pair (pair_in slots k) ≡ false) → slot_of slots pair ≡ None
slot_of-unnamed index slots pair indexed empty =
    position_none (holds pair) slots None
    (λ k within. false_from_ne_true _ (λ held.
    both_ways _ (empty k (indexed.by_slot k pair (holds-true pair _ held))) held))
