-- The heap of free slots.
use Rattle.std.proofs.Common.{◌≡◌, ◌==◌, ℕ, zero, suc, ◌+◌, ◌-◌, pos, ◌<◌, ◌≤◌, Bool, true, false, cond, List, [], ◌∷◌, ◌++◌, length, set, get_or, arith, Option, Some, None, ap, ⊎_elim, sym, ◌∙◌, length-append, get_or-set_same, get_or-set_other, refl}
use Rattle.std.specs.Prelude.{is_none, is_some, IsSome, count_by}
use Rattle.std.specs.List.Sorted.{IsPermutation}
use Rattle.std.specs.Ordering.{is_lt, nat_cmp}
use Rattle.std.specs.BinaryHeap.{IsHeap, IsUpperBound, PopsGreatest, KeepsHeap, heap_items, heap_len}
use Rattle.std.specs.declared.cmp.Ordering.TheVariants.{Less, Equal, Greater}
use Rattle.std.specs.declared.cmp.Reverse.{Reverse}
use Rattle.std.proofs.lemmas.Bool.{cases_Bool, cases_eq, cases_lt, both_ways, cond-true, cond-false, lt-ltb, eq-eqb, ne_eqb}
use Rattle.std.proofs.lemmas.List.{get_or_append_left, get_or-append_right, get_or_past, get_or_default, length-set}
use Rattle.std.proofs.lemmas.List.Sums.{sum_by-cons, sum_by-set, sum_by_push, count_by-le-length, get_or-le-sum_by}
use Rattle.std.proofs.lemmas.List.Sorted.{sum_by_pushed, sum_by_popped}
use Rattle.ob_model.specs.Descriptors.{Pair, Slots, vacant, pair_in, pair_count}
use Rattle.ob_away.specs.Kept.{Free, falling, is_free, IsListed}
use Rattle.ob_away.proofs.Positions.{position_is, position_none}

pub free_at : (slot : Option Pair) → is_none slot ≡ true → slot ≡ None
free_at None free = refl
free_at (Some pair) free = absurd cc

-- among the slots, free is what holds no pair
pub is_free-inside : (slots : Slots) (k : ℕ) → k < length slots → is_none (pair_in slots k) ≡ is_free slots k
is_free-inside slots k within = ap is_none (get_or_default slots k None (Some (0, pos 0)) within)

pub is_free-past : (slots : Slots) (k : ℕ) → length slots ≤ k → is_free slots k ≡ false
is_free-past slots k past = ap is_none (get_or_past slots k (Some (0, pos 0)) past)

pub within_free : (slots : Slots) (k : ℕ) → is_free slots k ≡ true → k < length slots
within_free slots k free =
    ⊎_elim
    (λ inside. inside)
    (λ past. absurd (both_ways (is_free slots k) (is_free-past slots k past) free))
    (cases_lt k (length slots))

pub is_free-used : (slots : Slots) (k : ℕ) → IsSome (pair_in slots k) → is_free slots k ≡ false
is_free-used slots k used =
    ⊎_elim
    (λ inside. sym (is_free-inside slots k inside) ∙ some (pair_in slots k) used)
    (λ past. is_free-past slots k past)
    (cases_lt k (length slots))
  where
    some : (slot : Option Pair) → IsSome slot → is_none slot ≡ false
    some None used = absurd cc
    some (Some pair) used = refl

pub is_free-set : (slots : Slots) (s : ℕ) (slot : Option Pair) → s < length slots → is_free (set slots s slot) s ≡ is_none slot
is_free-set slots s slot within = ap is_none (get_or-set_same slots s slot (Some (0, pos 0)) within)

pub is_free-other : (slots : Slots) (s k : ℕ) (slot : Option Pair) → (k ≡ s → ⊥) → is_free (set slots s slot) k ≡ is_free slots k
is_free-other slots s k slot apart = ap is_none (get_or-set_other slots s k slot (Some (0, pos 0)) apart)

pub is_free-push : (slots : Slots) (k : ℕ) (pair : Pair) → is_free (slots ++ Some pair ∷ []) k ≡ is_free slots k
is_free-push slots k pair =
    ⊎_elim
    (λ inside. ap is_none (get_or_append_left slots (Some pair ∷ []) (Some (0, pos 0)) k inside))
    (λ past.
    ap is_none (get_or-append_right slots (Some pair ∷ []) (length slots) k (Some (0, pos 0)) refl past)
    ∙ alone (k - length slots)
    ∙ sym (is_free-past slots k past))
    (cases_lt k (length slots))
  where
    alone : (j : ℕ) → is_none (get_or (Some pair ∷ []) j (Some (0, pos 0))) ≡ false
    alone zero = refl
    alone (suc j) = refl

-- ---- counts

abbrev tally : Bool → ℕ
tally b = cond b 1 0

abbrev is_slot : ℕ → Reverse ℕ → Bool
is_slot k r = r.0 == k

one_slot : (k : ℕ) (r : Reverse ℕ) → r.0 ≡ k → tally (is_slot k r) ≡ 1
one_slot k r same = cond-true (is_slot k r) 1 0 (eq-eqb r.0 k same)

no_slot : (k : ℕ) (r : Reverse ℕ) → (r.0 ≡ k → ⊥) → tally (is_slot k r) ≡ 0
no_slot k r apart = cond-false (is_slot k r) 1 0 (ne_eqb r.0 k apart)

one_where : (b : Bool) → b ≡ true → tally b ≡ 1
one_where b holds = cond-true b 1 0 holds

none_where : (b : Bool) → b ≡ false → tally b ≡ 0
none_where b fails = cond-false b 1 0 fails

true_where : (b : Bool) → 0 < tally b → b ≡ true
true_where true more = refl
true_where false more = absurd (omega arith)

not_before : (a b : ℕ) → is_lt (nat_cmp a b) ≡ false → b ≤ a
not_before a b later =
    ⊎_elim
    (λ less. absurd (both_ways (is_lt (nat_cmp a b)) later (ap (λ t. is_lt (cond t Less (cond (a == b) Equal Greater))) (lt-ltb a b less))))
    (λ more. more)
    (cases_lt a b)

-- no slot below the top of the heap stands in it
none_below : (x : Reverse ℕ) (xs : List (Reverse ℕ)) (k : ℕ) → IsUpperBound falling x xs → k < x.0 → count_by (is_slot k) xs ≡ 0
none_below x [] k bound below = refl
none_below x (y ∷ ys) k bound below =
    let order : x.0 ≤ y.0 = not_before y.0 x.0 bound.0 in
    let first : tally (is_slot k y) ≡ 0 = no_slot k y (λ same. omega arith) in
    let rest : count_by (is_slot k) ys ≡ 0 = none_below x ys k bound.1 below in
    omega (arith, sum_by-cons (λ r. cond (is_slot k r) 1 0) y ys, first, rest)

-- ---- a slot that is taken off the heap

module _ (slots : Slots) (old new : Free) (x : Reverse ℕ) (listed : IsListed old slots)
    (moved : IsPermutation (heap_items old) (x ∷ heap_items new)) (order : PopsGreatest falling (heap_items old) x (heap_items new))
  where
    popped : (k : ℕ) → count_by (is_slot k) (heap_items new) + cond (is_slot k x) 1 0 ≡ cond (is_free slots k) 1 0
    popped k = sum_by_popped (λ r. cond (is_slot k r) 1 0) x (heap_items old) (heap_items new) moved ∙ listed.each k

    pub top-free : is_free slots x.0 ≡ true
    top-free =
        true_where (is_free slots x.0) (omega (arith, popped x.0, one_slot x.0 x refl))

    below_top : (k : ℕ) → k < x.0 → is_free slots k ≡ false
    below_top k below =
        ⊎_elim
        (λ free. absurd (omega (arith, listed.each k, one_where (is_free slots k) free, none_below x (heap_items old) k (order listed.ordered).1 below)))
        (λ used. used)
        (cases_Bool (is_free slots k))

    pub top-vacant : vacant slots ≡ Some x.0
    top-vacant =
        let within = within_free slots x.0 top-free in
        position_is is_none slots None x.0 within
        (is_free-inside slots x.0 within ∙ top-free)
        (λ k less. is_free-inside slots k (omega arith) ∙ below_top k less)

    pub IsListed-taken : (pair : Pair) → heap_len new + 1 ≡ heap_len old → IsListed new (set slots x.0 (Some pair))
    IsListed-taken pair fewer =
        let within = within_free slots x.0 top-free in
        let here : ℕ = tally (is_some (pair_in slots x.0)) in
        let filled : pair_count (set slots x.0 (Some pair)) + here ≡ pair_count slots + 1 = sum_by-set (λ slot. cond (is_some slot) 1 0) slots x.0 (Some pair) None within in
        let empty : here ≡ 0 = ap (λ (slot : Option Pair). tally (is_some slot)) (free_at (pair_in slots x.0) (is_free-inside slots x.0 within ∙ top-free)) in
        record {
          ordered = (order listed.ordered).0;
          each = λ k.
              ⊎_elim
              (λ same.
              let used : is_free (set slots x.0 (Some pair)) k ≡ false = ap (is_free (set slots x.0 (Some pair))) same ∙ is_free-set slots x.0 (Some pair) within in
              let free : is_free slots k ≡ true = ap (is_free slots) same ∙ top-free in
              omega (arith, popped k, one_slot k x (sym same), one_where _ free, none_where _ used))
              (λ apart.
              let kept : tally (is_free (set slots x.0 (Some pair)) k) ≡ tally (is_free slots k) = ap tally (is_free-other slots x.0 k (Some pair) apart) in
              omega (arith, popped k, no_slot k x (λ same. apart (sym same)), kept))
              (cases_eq k x.0);
          counted = omega (arith, listed.counted, filled, empty, fewer, length-set slots x.0 (Some pair));
        }

-- ---- a slot that is put on the heap

pub within_used : (slots : Slots) (s : ℕ) → IsSome (pair_in slots s) → s < length slots
within_used slots s used =
    ⊎_elim
    (λ inside. inside)
    (λ past. absurd (let e : is_some (pair_in slots s) ≡ false = ap is_some (get_or_past slots s None past) in both_ways (is_some (pair_in slots s)) e used))
    (cases_lt s (length slots))

-- where a slot is used, the heap has fewer slots than there are
pub fewer_free : (slots : Slots) (free : Free) (s : ℕ) → IsListed free slots → IsSome (pair_in slots s) → heap_len free < length slots
fewer_free slots free s listed used =
    let one : tally (is_some (pair_in slots s)) ≡ 1 = one_where (is_some (pair_in slots s)) used in
    omega (arith, listed.counted, one, get_or-le-sum_by (λ slot. cond (is_some slot) 1 0) slots s None (within_used slots s used))

-- a freed slot leaves one pair less
pub freed_count : (slots : Slots) (s : ℕ) → IsSome (pair_in slots s) → pair_count (set slots s None) + 1 ≡ pair_count slots
freed_count slots s used =
    let here : ℕ = tally (is_some (pair_in slots s)) in
    let emptied : pair_count (set slots s None) + here ≡ pair_count slots + 0 = sum_by-set (λ slot. cond (is_some slot) 1 0) slots s None None (within_used slots s used) in
    let full : here ≡ 1 = one_where (is_some (pair_in slots s)) used in
    omega (arith, emptied, full)

pub IsListed-freed : (slots : Slots) (old new : Free) (s : ℕ) (x : Reverse ℕ) → x.0 ≡ s → IsListed old slots → IsSome (pair_in slots s) → IsPermutation (x ∷ heap_items old) (heap_items new) → KeepsHeap falling (heap_items old) (heap_items new) → heap_len new ≡ heap_len old + 1 → IsListed new (set slots s None)
IsListed-freed slots old new s x is listed used moved order more =
    let here : ℕ = tally (is_some (pair_in slots s)) in
    let within = within_used slots s used in
    record {
      ordered = order listed.ordered;
      each = λ k.
          let pushed : count_by (is_slot k) (heap_items new) ≡ cond (is_slot k x) 1 0 + count_by (is_slot k) (heap_items old) = sum_by_pushed (λ r. cond (is_slot k r) 1 0) x (heap_items old) (heap_items new) moved in
          ⊎_elim
          (λ same.
          let free : is_free (set slots s None) k ≡ true = ap (is_free (set slots s None)) same ∙ is_free-set slots s None within in
          let taken : is_free slots k ≡ false = ap (is_free slots) same ∙ is_free-used slots s used in
          omega (arith, pushed, listed.each k, one_slot k x (is ∙ sym same), one_where _ free, none_where _ taken))
          (λ apart.
          let kept : tally (is_free (set slots s None) k) ≡ tally (is_free slots k) = ap tally (is_free-other slots s k None apart) in
          omega (arith, pushed, listed.each k, no_slot k x (λ same. apart (sym same ∙ is)), kept))
          (cases_eq k s);
      counted = omega (arith, listed.counted, freed_count slots s used, more, length-set slots s None);
    }

-- ---- a slot past the last

pub IsListed-pushed : (slots : Slots) (free : Free) (pair : Pair) → IsListed free slots → IsListed free (slots ++ Some pair ∷ [])
IsListed-pushed slots free pair listed = record {
  ordered = listed.ordered;
  each = λ k. listed.each k ∙ ap tally (sym (is_free-push slots k pair));
  counted = omega (arith, listed.counted, sum_by_push (λ slot. cond (is_some slot) 1 0) slots (Some pair), length-append slots (Some pair ∷ []));
}

-- ---- no free slot

pub fewer_pairs : (slots : Slots) (s : ℕ) → s < length slots → is_none (pair_in slots s) ≡ true → pair_count slots < length slots
fewer_pairs slots s within free =
    let pair : Pair = (0, pos 0) in
    let here : ℕ = tally (is_some (pair_in slots s)) in
    let filled : pair_count (set slots s (Some pair)) + here ≡ pair_count slots + 1 = sum_by-set (λ slot. cond (is_some slot) 1 0) slots s (Some pair) None within in
    let none : here ≡ 0 = ap (λ (slot : Option Pair). tally (is_some slot)) (free_at (pair_in slots s) free) in
    omega (arith, filled, none, count_by-le-length is_some (set slots s (Some pair)), length-set slots s (Some pair))

pub vacant-none : (slots : Slots) (free : Free) → IsListed free slots → heap_len free ≡ 0 → vacant slots ≡ None
vacant-none slots free listed empty =
    position_none is_none slots None (λ k within.
    ⊎_elim
    (λ none. absurd (omega (arith, listed.counted, empty, fewer_pairs slots k within none)))
    (λ used. used)
    (cases_Bool (is_none (pair_in slots k))))

pub IsListed-none : (slots : Slots) (free : Free) → slots ≡ [] → IsHeap falling (heap_items free) → heap_items free ≡ [] → heap_len free ≡ 0 → IsListed free slots
IsListed-none slots free none order items empty = record {
  ordered = order;
  each = λ k. ap (count_by (is_slot k)) items ∙ ap (λ (xs : Slots). tally (is_free xs k)) (sym none);
  counted = omega (arith, empty, ap pair_count none, ap length none);
}
