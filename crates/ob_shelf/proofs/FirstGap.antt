-- The start of the first gap that is long enough is the least place that fits.
use Rattle.std.proofs.Common.{◌≡◌, ℕ, zero, suc, ◌+◌, ◌-◌, ◌%◌, ◌<◌, ◌≤◌, List, length, get_or, arith, Option, Some, None, ap, subst, ⊎_elim, inl, inr, sym, ◌∙◌, refl}
use Rattle.std.specs.Prelude.{◌==◌, nat_lt, MatchOption}
use Rattle.std.proofs.lemmas.Bool.{cases_eq, cases_lt, ne_eqb, lt-ltb, le-ltb, cond-true, cond-false}
use Rattle.std.proofs.lemmas.List.{get_or-map, length-map}
use Rattle.ob_model.specs.Heap.{Block, Apart, Fits, IsFirstFit, heap_place}
use Rattle.ob_model.specs.Laws.{HeapIsFirstFit}
use Rattle.ob_shelf.specs.declared.blocks.LiveBlock.{LiveBlock}
use Rattle.ob_shelf.specs.Blocks.{as_block, as_blocks, no_block, gap_start, gap_end, AreLaid, IsShorter, IsFirstGap}
use Rattle.ob_shelf.proofs.Order.{places_up_to}

pub gap_start-after : (blocks : List LiveBlock) (k : ℕ) → gap_start blocks (suc k) ≡ (get_or blocks k no_block).place + (get_or blocks k no_block).length
gap_start-after blocks k =
    let back : suc k - 1 ≡ k = omega arith in
    cond-false (suc k == 0) 0 ((get_or blocks (suc k - 1) no_block).place + (get_or blocks (suc k - 1) no_block).length) (ne_eqb (suc k) 0 (λ e. omega arith))
    ∙ ap (λ i. (get_or blocks i no_block).place + (get_or blocks i no_block).length) back

pub gap_end-inside : (heap : ℕ) (blocks : List LiveBlock) (k : ℕ) → k < length blocks → gap_end heap blocks k ≡ (get_or blocks k no_block).place
gap_end-inside heap blocks k inside = cond-true (nat_lt k (length blocks)) (get_or blocks k no_block).place heap (lt-ltb k (length blocks) inside)

pub gap_end-last : (heap : ℕ) (blocks : List LiveBlock) (k : ℕ) → length blocks ≤ k → gap_end heap blocks k ≡ heap
gap_end-last heap blocks k last = cond-false (nat_lt k (length blocks)) (get_or blocks k no_block).place heap (le-ltb k (length blocks) last)

module _ (heap : ℕ) (blocks : List LiveBlock) (size : ℕ) (laid : AreLaid heap blocks) where
  -- a place that fits lies behind or before each block
  apart_at : (q : ℕ) → Fits (as_blocks blocks) heap size q → (k : ℕ) → k < length blocks → Apart q size (as_block (get_or blocks k no_block))
  apart_at q fits k below =
      subst (Apart q size) (get_or-map as_block blocks k no_block (as_block no_block) below)
      (fits.apart k (as_block no_block) (omega (arith, length-map blocks as_block)))

  -- past each gap that is too short
  climb : (q : ℕ) → Fits (as_blocks blocks) heap size q → (i : ℕ) → i ≤ length blocks → ((k : ℕ) → k < i → IsShorter heap blocks size k) → gap_start blocks i ≤ q
  climb q fits zero within shorter = omega arith
  climb q fits (suc j) within shorter =
      let start : gap_start blocks j ≤ q = climb q fits j (omega arith) (λ k less. shorter k (omega arith)) in
      let short : IsShorter heap blocks size j = shorter j (omega arith) in
      let end = gap_end-inside heap blocks j (omega arith) in
      let next = gap_start-after blocks j in
      ⊎_elim
      (λ before. absurd (omega (arith, start, short, end, before)))
      (λ behind. omega (arith, next, behind))
      (apart_at q fits j (omega arith))

  pub nowhere : IsFirstGap heap blocks size None → (q : ℕ) → Fits (as_blocks blocks) heap size q → ⊥
  nowhere shorter q fits =
      let start = climb q fits (length blocks) (omega arith) (λ k less. shorter k (omega arith)) in
      let end = gap_end-last heap blocks (length blocks) (omega arith) in
      let short : IsShorter heap blocks size (length blocks) = shorter (length blocks) (omega arith) in
      omega (arith, start, end, short, fits.within)

  pub gap_aligned : (i : ℕ) → i ≤ length blocks → gap_start blocks i % 16 ≡ 0
  gap_aligned zero within = refl
  gap_aligned (suc j) within =
      let granular = laid.granular j no_block (omega arith) in
      let next = gap_start-after blocks j in
      omega (arith, granular.0, granular.1, next)

  pub gap_end-within : (i : ℕ) → i ≤ length blocks → gap_end heap blocks i ≤ heap
  gap_end-within i within =
      ⊎_elim
      (λ inside. let end = gap_end-inside heap blocks i inside in let b = laid.within i no_block inside in omega (arith, end, b))
      (λ last. let end = gap_end-last heap blocks i last in omega (arith, end))
      (cases_lt i (length blocks))

  -- each block before gap i ends where it starts, or before
  pub ends_before : (i k : ℕ) → i ≤ length blocks → k < i → (get_or blocks k no_block).place + (get_or blocks k no_block).length ≤ gap_start blocks i
  ends_before zero k within less = absurd (omega arith)
  ends_before (suc j) k within less =
      let next = gap_start-after blocks j in
      ⊎_elim
      (λ is. let same : (get_or blocks k no_block).place + (get_or blocks k no_block).length ≡ gap_start blocks (suc j) = ap (λ n. (get_or blocks n no_block).place + (get_or blocks n no_block).length) is ∙ sym next in omega arith)
      (λ apart. let order = laid.in_order k j no_block (omega arith) (omega arith) in omega (arith, order, next))
      (cases_eq k j)

  -- each block from gap i on starts where it ends, or behind
  pub starts_behind : (i k : ℕ) → i ≤ k → k < length blocks → gap_end heap blocks i ≤ (get_or blocks k no_block).place
  starts_behind i k up below =
      let end = gap_end-inside heap blocks i (omega arith) in
      let order = places_up_to blocks no_block no_block i k laid.in_order up below in
      omega (arith, end, order)

  pub first_fit : (i : ℕ) → IsFirstGap heap blocks size (Some i) → IsFirstFit (as_blocks blocks) heap size (gap_start blocks i)
  first_fit i gap = record {
    fits = record {
      aligned = gap_aligned i gap.0;
      within = omega (arith, gap.1, gap_end-within i gap.0);
      apart = λ k d below.
          (let inside : k < length blocks = omega (arith, length-map blocks as_block) in
          let apart : Apart (gap_start blocks i) size (as_block (get_or blocks k no_block)) =
          ⊎_elim
          (λ before. inr (ends_before i k gap.0 before))
          (λ behind. inl (omega (arith, gap.1, starts_behind i k behind inside)))
          (cases_lt k i) in
          subst (Apart (gap_start blocks i) size) (sym (get_or-map as_block blocks k no_block d inside)) apart);
    };
    least = λ q fits. climb q fits i gap.0 gap.2;
  }

found : (blocks : List Block) (heap size p : ℕ) (answer : Option ℕ) → MatchOption answer ((q : ℕ) → Fits blocks heap size q → ⊥) (IsFirstFit blocks heap size) → IsFirstFit blocks heap size p → answer ≡ Some p
found blocks heap size p None law first = absurd (law p first.fits)
found blocks heap size p (Some q) law first =
    let up = law.least p first.fits in
    let down = first.least q law.fits in
    let same : q ≡ p = omega arith in
    ap Some same

missed : (blocks : List Block) (heap size : ℕ) (answer : Option ℕ) → MatchOption answer ((q : ℕ) → Fits blocks heap size q → ⊥) (IsFirstFit blocks heap size) → ((q : ℕ) → Fits blocks heap size q → ⊥) → answer ≡ None
missed blocks heap size None law none = refl
missed blocks heap size (Some q) law none = absurd (none q law.fits)

-- the heap's place, from its law
pub heap_place-found : HeapIsFirstFit → (blocks : List Block) (heap size p : ℕ) → IsFirstFit blocks heap size p → heap_place blocks heap size ≡ Some p
heap_place-found law blocks heap size p first = found blocks heap size p (heap_place blocks heap size) (law blocks heap size) first

pub heap_place-none : HeapIsFirstFit → (blocks : List Block) (heap size : ℕ) → ((q : ℕ) → Fits blocks heap size q → ⊥) → heap_place blocks heap size ≡ None
heap_place-none law blocks heap size none = missed blocks heap size (heap_place blocks heap size) (law blocks heap size) none

pub gap_place : HeapIsFirstFit → (heap : ℕ) (blocks : List LiveBlock) (size : ℕ) → AreLaid heap blocks → (answer : Option ℕ) → IsFirstGap heap blocks size answer → MatchOption answer (heap_place (as_blocks blocks) heap size ≡ None) (λ i. heap_place (as_blocks blocks) heap size ≡ Some (gap_start blocks i))
gap_place law heap blocks size laid None gap = heap_place-none law (as_blocks blocks) heap size (nowhere heap blocks size laid gap)
gap_place law heap blocks size laid (Some i) gap = heap_place-found law (as_blocks blocks) heap size (gap_start blocks i) (first_fit heap blocks size laid i gap)
