-- What the index names, slot after slot.
use Rattle.std.proofs.Common.{◌≡◌, ℕ, ◌+◌, ◌<◌, length, arith, Some, None, ap, ⊎_elim, sym, ◌∙◌}
use Rattle.std.proofs.lemmas.Bool.{both_ways, cases_Bool, cases_eq}
use Rattle.ob_away.proofs.Positions.{none_before}
use Rattle.ob_model.specs.Descriptors.{Pair, Slots, IsInterned, same_pair, holds, slot_of, pair_in}
use Rattle.ob_away.specs.Kept.{Index, named, NamesOthers, IsIndexed}
use Rattle.ob_away.proofs.Pairs.{same_pair-true, within_slots}

-- the index names each of the first i slots
abbrev pub NamesFirst : Index → Slots → ℕ → Type 0
NamesFirst index slots i = (k : ℕ) (pair : Pair) → k < i → pair_in slots k ≡ Some pair → named index pair ≡ Some k

-- one more slot, which holds q
pub NamesFirst-more : (old new : Index) (slots : Slots) (i : ℕ) (q : Pair) → IsInterned slots → pair_in slots i ≡ Some q → NamesFirst old slots i → named new q ≡ Some i → NamesOthers old new q → NamesFirst new slots (i + 1)
NamesFirst-more old new slots i q interned here first at_i others k pair below held =
    ⊎_elim
    (λ same.
    let other : pair ≡ q = (let e : Some pair ≡ Some q = sym held ∙ ap (pair_in slots) same ∙ here in cc) in
    ap (named new) other ∙ at_i ∙ ap Some (sym same))
    (λ differ.
    ⊎_elim
    (λ alike. let e : k ≡ i = interned k i pair held (here ∙ ap Some (same_pair-true q pair alike)) in
    let other : pair ≡ q = sym (same_pair-true q pair alike) in
    ap (named new) other ∙ at_i ∙ ap Some (sym e))
    (λ apart. others pair apart ∙ first k pair (omega arith) held)
    (cases_Bool (same_pair q pair)))
    (cases_eq k i)

-- one more slot, which is free
pub NamesFirst-free : (index : Index) (slots : Slots) (i : ℕ) → pair_in slots i ≡ None → NamesFirst index slots i → NamesFirst index slots (i + 1)
NamesFirst-free index slots i free first k pair below held =
    ⊎_elim
    (λ same. absurd (let e : Some pair ≡ None = sym held ∙ ap (pair_in slots) same ∙ free in cc))
    (λ apart. first k pair (omega arith) held)
    (cases_eq k i)

-- every slot is named
pub IsIndexed-first : (index : Index) (slots : Slots) → NamesFirst index slots (length slots) → IsIndexed index slots
IsIndexed-first index slots first = record { by_slot = λ k pair held. first k pair (within_slots slots k pair held) held }

-- a change at a pair that isn't listed
pub IsIndexed-others : (old new : Index) (slots : Slots) (pair : Pair) → IsIndexed old slots → slot_of slots pair ≡ None → NamesOthers old new pair → IsIndexed new slots
IsIndexed-others old new slots pair indexed absent others = record {
  by_slot = λ k other held.
      ⊎_elim
      (λ alike. absurd (both_ways (holds pair (pair_in slots k))
      (none_before (holds pair) slots None absent k (within_slots slots k other held))
      (ap (holds pair) held ∙ alike)))
      (λ apart. others other apart ∙ indexed.by_slot k other held)
      (cases_Bool (same_pair pair other));
}
