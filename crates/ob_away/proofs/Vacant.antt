-- The slots that were ever used: how many hold a pair, and one more of them.
use Rattle.std.proofs.Common.{◌≡◌, ℕ, zero, suc, ◌-◌, ◌+◌, ◌<◌, ◌≤◌, true, false, cond, length, set, [], ◌∷◌, ◌++◌, arith, Option, Some, None, ap, ⊎_elim, sym, ◌∙◌, refl}
use Rattle.std.specs.Prelude.{is_none, is_some, unwrap_or, MatchOption, IfSome, if◌then◌else◌}
use Rattle.std.proofs.lemmas.Bool.{cases_lt}
use Rattle.std.proofs.lemmas.List.{get_or_append_left, get_or-append_right, get_or_past}
use Rattle.std.proofs.lemmas.List.Sums.{sum_by-cons}
use Rattle.std.proofs.lemmas.List.Quantifiers.{position-Some}
use Rattle.std.proofs.Math.Seq.{set-append_seam}
use Rattle.ob_model.specs.Descriptors.{Pair, Slots, holds, slot_of, pair_in, pair_count, vacant, put_slot, with_pair, free_slot}
use Rattle.ob_away.specs.Kept.{Free, IsListed}
use Rattle.ob_away.proofs.FreeSlots.{free_at, fewer_pairs, IsListed-pushed}
use Rattle.ob_away.proofs.Positions.{position_none, none_before}

-- no slot is free: each holds a pair
pair_count-used : (slots : Slots) → ((k : ℕ) → k < length slots → is_none (pair_in slots k) ≡ false) → pair_count slots ≡ length slots
pair_count-used [] used = refl
pair_count-used (None ∷ slots) used = absurd (let e : true ≡ false = used 0 (omega arith) in cc)
pair_count-used (Some pair ∷ slots) used =
    let rest : pair_count slots ≡ length slots = pair_count-used slots (λ k below. used (suc k) (omega arith)) in
    let first : pair_count (Some pair ∷ slots) ≡ 1 + pair_count slots = sum_by-cons (λ slot. cond (is_some slot) 1 0) (Some pair) slots in
    omega (arith, first, rest)

pub pair_count-full : (slots : Slots) → vacant slots ≡ None → pair_count slots ≡ length slots
pair_count-full slots none = pair_count-used slots (none_before is_none slots None none)

-- a slot is free: fewer pairs than slots
pub pair_count-vacant : (slots : Slots) (s : ℕ) → vacant slots ≡ Some s → pair_count slots < length slots
pair_count-vacant slots s found =
    let facts = position-Some is_none slots s None found in
    fewer_pairs slots s facts.0 facts.1

pub pair_in-vacant : (slots : Slots) (s : ℕ) → vacant slots ≡ Some s → pair_in slots s ≡ None
pair_in-vacant slots s found = free_at (pair_in slots s) (position-Some is_none slots s None found).1

-- one slot more, which is free, reads as before
pub pair_in-push : (slots : Slots) (k : ℕ) → pair_in (slots ++ None ∷ []) k ≡ pair_in slots k
pair_in-push slots k =
    ⊎_elim
    (λ inside. get_or_append_left slots (None ∷ []) None k inside)
    (λ past. get_or-append_right slots (None ∷ []) (length slots) k None refl past ∙ alone (k - length slots) ∙ sym (get_or_past slots k None past))
    (cases_lt k (length slots))
  where
    alone : (j : ℕ) → pair_in (None ∷ []) j ≡ None
    alone zero = refl
    alone (suc j) = refl

-- slots that read the same list the same pairs
pub slot_of-same : (slots others : Slots) (pair : Pair) → ((k : ℕ) → pair_in others k ≡ pair_in slots k) → slot_of slots pair ≡ None → slot_of others pair ≡ None
slot_of-same slots others pair same absent =
    position_none (holds pair) others None (λ k _.
    ap (holds pair) (same k) ∙
    ⊎_elim
    (λ inside. none_before (holds pair) slots None absent k inside)
    (λ past. ap (holds pair) (get_or_past slots k None past))
    (cases_lt k (length slots)))

-- a pair that goes into the least free slot
pub with_pair-vacant : (slots : Slots) (s : ℕ) (pair : Pair) → vacant slots ≡ Some s → set slots s (Some pair) ≡ with_pair pair slots
with_pair-vacant slots s pair found = ap (λ (o : Option ℕ). put_slot o pair slots) (sym found)

pub with_pair-next : (slots : Slots) (pair : Pair) → vacant slots ≡ None → set (slots ++ None ∷ []) (length slots) (Some pair) ≡ with_pair pair slots
with_pair-next slots pair none = set-append_seam slots None [] (Some pair) ∙ ap (λ (o : Option ℕ). put_slot o pair slots) (sym none)

pub free_slot-vacant : (slots : Slots) (s : ℕ) → vacant slots ≡ Some s → s ≡ free_slot slots
free_slot-vacant slots s found = ap (λ (o : Option ℕ). unwrap_or o (length slots)) (sym found)

pub free_slot-next : (slots : Slots) → vacant slots ≡ None → length slots ≡ free_slot slots
free_slot-next slots none = ap (λ (o : Option ℕ). unwrap_or o (length slots)) (sym none)

-- what one slot more gives where no slot is free
module _ (limit : ℕ) (slots others : Slots) (none : vacant slots ≡ None) where
  abbrev Extends : Option ℕ → Type 0
  Extends answer = MatchOption answer (limit ≤ length slots) (λ slot. (slot ≡ length slots) × (slot < limit))

  abbrev Extended : Option ℕ → Type 0
  Extended answer = others ≡ (if is_some answer then slots ++ None ∷ [] else slots)

  pub extended-count : (answer : Option ℕ) → Extends answer → MatchOption answer (limit ≤ pair_count slots) (λ slot. pair_count slots < limit)
  extended-count None full = omega (arith, pair_count-full slots none, full)
  extended-count (Some slot) room = omega (arith, pair_count-full slots none, room.0, room.1)

  pub extended-put : (answer : Option ℕ) → Extends answer → Extended answer → IfSome answer (λ slot. (pair : Pair) → set others slot (Some pair) ≡ with_pair pair slots)
  extended-put None full same = tt
  extended-put (Some slot) room pushed = λ pair.
      ap (λ (xs : Slots). set xs slot (Some pair)) pushed
      ∙ ap (λ k. set (slots ++ None ∷ []) k (Some pair)) room.0
      ∙ with_pair-next slots pair none

  pub extended-listed : (free : Free) → IsListed free slots → (answer : Option ℕ) → Extends answer → Extended answer → IfSome answer (λ slot. (pair : Pair) → IsListed free (set others slot (Some pair)))
  extended-listed free listed None full same = tt
  extended-listed free listed (Some slot) room pushed = λ pair.
      let put : set others slot (Some pair) ≡ slots ++ Some pair ∷ [] =
      ap (λ (xs : Slots). set xs slot (Some pair)) pushed
      ∙ ap (λ k. set (slots ++ None ∷ []) k (Some pair)) room.0
      ∙ set-append_seam slots None [] (Some pair) in
      rw put (IsListed-pushed slots free pair listed)

  pub extended-vacant : (answer : Option ℕ) → Extends answer → Extended answer → IfSome answer (λ slot. pair_in others slot ≡ None)
  extended-vacant None full same = tt
  extended-vacant (Some slot) room pushed =
      ap (λ (xs : Slots). pair_in xs slot) pushed
      ∙ pair_in-push slots slot
      ∙ get_or_past slots slot None (omega (arith, room.0))

pub IfSome-map : (P Q : ℕ → Type 0) (answer : Option ℕ) → ((s : ℕ) → P s → Q s) → IfSome answer P → IfSome answer Q
IfSome-map P Q None f p = tt
IfSome-map P Q (Some s) f p = f s p
