-- The hints hold while blocks come and go.
use Rattle.std.proofs.Common.{◌≡◌, ℕ, zero, suc, min, ◌+◌, ◌-◌, ◌*◌, ◌/◌, ◌<◌, ◌≤◌, List, length, get_or, replicate, arith, Some, ap, subst, ⊎_elim, sym, ◌∙◌, refl}
use Rattle.std.specs.Prelude.{insert, remove}
use Rattle.std.proofs.lemmas.Bool.{cases_eq, cases_lt}
use Rattle.std.proofs.lemmas.List.{get_or-replicate, get_or_past, length-replicate}
use Rattle.std.proofs.lemmas.List.Edits.{length-insert, get_or-insert_below, get_or-insert_at, get_or-insert_above, length-remove, get_or-remove_below, get_or-remove_above}
use Rattle.ob_shelf.specs.declared.blocks.LiveBlock.{LiveBlock}
use Rattle.ob_shelf.specs.Blocks.{no_block, gap_start, gap_end, IsShorter, IsFirstGap, AreHints, Raises, Lowers}
use Rattle.ob_shelf.proofs.FirstGap.{gap_start-after, gap_end-inside, gap_end-last}

-- the end of a block, by its index
ends_at : (blocks others : List LiveBlock) (j k : ℕ) → get_or blocks j no_block ≡ get_or others k no_block → gap_start blocks (suc j) ≡ gap_start others (suc k)
ends_at blocks others j k same =
    gap_start-after blocks j ∙ ap (λ (b : LiveBlock). b.place + b.length) same ∙ sym (gap_start-after others k)

module _ (heap : ℕ) (blocks : List LiveBlock) (i : ℕ) (b : LiveBlock) (within : i ≤ length blocks) where
  long : length (insert blocks i b) ≡ length blocks + 1
  long = length-insert blocks i b within

  start_below : (k : ℕ) → k ≤ i → gap_start (insert blocks i b) k ≡ gap_start blocks k
  start_below zero up = refl
  start_below (suc j) up = ends_at (insert blocks i b) blocks j j (get_or-insert_below blocks i b no_block j (omega arith) within)

  start_next : gap_start (insert blocks i b) (suc i) ≡ b.place + b.length
  start_next = gap_start-after (insert blocks i b) i ∙ ap (λ (c : LiveBlock). c.place + c.length) (get_or-insert_at blocks i b no_block within)

  start_above : (j : ℕ) → i ≤ j → gap_start (insert blocks i b) (suc (suc j)) ≡ gap_start blocks (suc j)
  start_above j up =
      let next : suc j ≡ j + 1 = omega arith in
      ends_at (insert blocks i b) blocks (suc j) j (ap (λ n. get_or (insert blocks i b) n no_block) next ∙ get_or-insert_above blocks i b no_block j up within)

  end_below : (k : ℕ) → k < i → gap_end heap (insert blocks i b) k ≡ gap_end heap blocks k
  end_below k less =
      gap_end-inside heap (insert blocks i b) k (omega (arith, long))
      ∙ ap (λ (c : LiveBlock). c.place) (get_or-insert_below blocks i b no_block k less within)
      ∙ sym (gap_end-inside heap blocks k (omega arith))

  end_here : gap_end heap (insert blocks i b) i ≡ b.place
  end_here =
      gap_end-inside heap (insert blocks i b) i (omega (arith, long))
      ∙ ap (λ (c : LiveBlock). c.place) (get_or-insert_at blocks i b no_block within)

  end_above : (j : ℕ) → i ≤ j → gap_end heap (insert blocks i b) (suc j) ≡ gap_end heap blocks j
  end_above j up =
      let next : suc j ≡ j + 1 = omega arith in
      ⊎_elim
      (λ inside.
      gap_end-inside heap (insert blocks i b) (suc j) (omega (arith, long))
      ∙ ap (λ (c : LiveBlock). c.place) (ap (λ n. get_or (insert blocks i b) n no_block) next ∙ get_or-insert_above blocks i b no_block j up within)
      ∙ sym (gap_end-inside heap blocks j inside))
      (λ past. gap_end-last heap (insert blocks i b) (suc j) (omega (arith, long)) ∙ sym (gap_end-last heap blocks j past))
      (cases_lt j (length blocks))

module _ (heap : ℕ) (blocks : List LiveBlock) (i : ℕ) (within : i < length blocks) where
  short : length (remove blocks i) + 1 ≡ length blocks
  short = length-remove blocks i within

  left_start : (k : ℕ) → k ≤ i → gap_start (remove blocks i) k ≡ gap_start blocks k
  left_start zero up = refl
  left_start (suc j) up = ends_at (remove blocks i) blocks j j (get_or-remove_below blocks i no_block j (omega arith) within)

  right_start : (j : ℕ) → i ≤ j → gap_start (remove blocks i) (suc j) ≡ gap_start blocks (suc (suc j))
  right_start j up =
      let next : j + 1 ≡ suc j = omega arith in
      ends_at (remove blocks i) blocks j (suc j) (get_or-remove_above blocks i no_block j up within ∙ ap (λ n. get_or blocks n no_block) next)

  left_end : (k : ℕ) → k < i → gap_end heap (remove blocks i) k ≡ gap_end heap blocks k
  left_end k less =
      gap_end-inside heap (remove blocks i) k (omega (arith, short))
      ∙ ap (λ (c : LiveBlock). c.place) (get_or-remove_below blocks i no_block k less within)
      ∙ sym (gap_end-inside heap blocks k (omega arith))

  right_end : (j : ℕ) → i ≤ j → gap_end heap (remove blocks i) j ≡ gap_end heap blocks (suc j)
  right_end j up =
      let next : j + 1 ≡ suc j = omega arith in
      ⊎_elim
      (λ inside.
      gap_end-inside heap (remove blocks i) j (omega (arith, short))
      ∙ ap (λ (c : LiveBlock). c.place) (get_or-remove_above blocks i no_block j up within ∙ ap (λ n. get_or blocks n no_block) next)
      ∙ sym (gap_end-inside heap blocks (suc j) (omega arith)))
      (λ past. gap_end-last heap (remove blocks i) j (omega (arith, short)) ∙ sym (gap_end-last heap blocks (suc j) (omega arith)))
      (cases_lt (suc j) (length blocks))

-- a gap behind the block
taken_later : (heap : ℕ) (blocks : List LiveBlock) (size i p c : ℕ) → IsFirstGap heap blocks size (Some i) → p ≡ gap_start blocks i → (j : ℕ) → i ≤ j → IsShorter heap blocks (16 * c) j → IsShorter heap (insert blocks i (record { place = p; length = size })) (16 * c) (suc j)
taken_later heap blocks size i p c gap place j up old =
    let b : LiveBlock = record { place = p; length = size } in
    let end = end_above heap blocks i b gap.0 j up in
    ⊎_elim
    (λ here.
    let next = start_next heap blocks i b gap.0 in
    let start : gap_start (insert blocks i b) (suc j) ≡ p + size = ap (λ n. gap_start (insert blocks i b) (suc n)) (sym here) ∙ next in
    let same : gap_start blocks j ≡ gap_start blocks i = ap (gap_start blocks) (sym here) in
    omega (arith, start, end, old, same, place))
    (λ apart.
    let m : ℕ = j - 1 in
    let is : suc m ≡ j = omega arith in
    let above = start_above heap blocks i b gap.0 m (omega arith) in
    let start : gap_start (insert blocks i b) (suc j) ≡ gap_start blocks j = ap (λ n. gap_start (insert blocks i b) (suc n)) (sym is) ∙ above ∙ ap (gap_start blocks) is in
    omega (arith, start, end, old))
    (cases_eq i j)

-- a block was put into the first gap that is long enough
pub hints_taken : (heap : ℕ) (blocks : List LiveBlock) (size i p : ℕ) (hints raised : List ℕ) → IsFirstGap heap blocks size (Some i) → p ≡ gap_start blocks i → AreHints heap blocks hints → Raises hints raised size i → AreHints heap (insert blocks i (record { place = p; length = size })) raised
hints_taken heap blocks size i p hints raised gap place hold raises c k class below =
    let b : LiveBlock = record { place = p; length = size } in
    let in_class : c < length hints = omega (arith, class, raises.classes) in
    ⊎_elim
    (λ before.
    let start = start_below heap blocks i b gap.0 k (omega arith) in
    let end = end_below heap blocks i b gap.0 k before in
    let old : IsShorter heap blocks (16 * c) k =
    ⊎_elim
    (λ known. hold c k in_class known)
    (λ fresh. let shorter : IsShorter heap blocks size k = gap.2 k before in omega (arith, shorter, fresh.0))
    (raises.each c k in_class below) in
    omega (arith, start, end, old))
    (λ behind. ⊎_elim
    (λ known. ⊎_elim
    (λ here.
    let old : IsShorter heap blocks (16 * c) i = subst (IsShorter heap blocks (16 * c)) (sym here) (hold c k in_class known) in
    let start = start_below heap blocks i b gap.0 i (omega arith) in
    let end = end_here heap blocks i b gap.0 in
    subst (IsShorter heap (insert blocks i b) (16 * c)) here (omega (arith, start, end, old, place, gap.1)))
    (λ apart.
    let j : ℕ = k - 1 in
    let is : suc j ≡ k = omega arith in
    let old : IsShorter heap blocks (16 * c) j = hold c j in_class (omega arith) in
    subst (IsShorter heap (insert blocks i b) (16 * c)) is (taken_later heap blocks size i p c gap place j (omega arith) old))
    (cases_eq i k))
    (λ fresh. absurd (omega (arith, fresh.1)))
    (raises.each c k in_class below))
    (cases_lt k i)

-- a block was freed
pub hints_given : (heap : ℕ) (blocks : List LiveBlock) (i : ℕ) (hints lowered : List ℕ) → i < length blocks → AreHints heap blocks hints → Lowers hints lowered (gap_end heap blocks (i + 1) - gap_start blocks i) i → AreHints heap (remove blocks i) lowered
hints_given heap blocks i hints lowered within hold lowers c k class below =
    let in_class : c < length hints = omega (arith, class, lowers.classes) in
    ⊎_elim
    (λ before.
    let start = left_start heap blocks i within k (omega (arith, before.0)) in
    let end = left_end heap blocks i within k before.0 in
    let old : IsShorter heap blocks (16 * c) k = hold c k in_class before.1 in
    omega (arith, start, end, old))
    (λ behind.
    ⊎_elim
    (λ here.
    let start = left_start heap blocks i within i (omega arith) in
    let end = right_end heap blocks i within i (omega arith) in
    let next : gap_end heap blocks (i + 1) ≡ gap_end heap blocks (suc i) = ap (gap_end heap blocks) (omega arith) in
    subst (IsShorter heap (remove blocks i) (16 * c)) here (omega (arith, start, end, next, behind.1)))
    (λ apart.
    let j : ℕ = k - 1 in
    let is : suc j ≡ k = omega arith in
    let start = right_start heap blocks i within j (omega (arith, behind.0)) in
    let end = right_end heap blocks i within (suc j) (omega (arith, behind.0)) in
    let old : IsShorter heap blocks (16 * c) (suc (suc j)) = hold c (suc (suc j)) in_class (omega (arith, behind.2)) in
    subst (IsShorter heap (remove blocks i) (16 * c)) is (omega (arith, start, end, old)))
    (cases_eq i k))
    (lowers.each c k in_class below)

-- no_gap is said yet
pub hints_zero : (heap : ℕ) (blocks : List LiveBlock) (hints : List ℕ) → ((c : ℕ) → get_or hints c 0 ≡ 0) → AreHints heap blocks hints
hints_zero heap blocks hints zeros c k class below = absurd (omega (arith, zeros c))

-- the hint of a size holds for it
pub hint_serves : (heap : ℕ) (blocks : List LiveBlock) (hints : List ℕ) (size k : ℕ) → length hints ≡ 65 → AreHints heap blocks hints → k < get_or hints (min (size / 16) 64) 0 → IsShorter heap blocks size k
hint_serves heap blocks hints size k classes hold below =
    let class : ℕ = min (size / 16) 64 in
    let old : IsShorter heap blocks (16 * class) k = hold class k (omega arith) below in
    omega (arith, old)

abbrev no_gap : ℕ
no_gap = 0

zero_at : (n c : ℕ) → get_or (replicate n no_gap) c no_gap ≡ no_gap
zero_at n c =
    ⊎_elim
    (λ inside. get_or-replicate n c no_gap no_gap inside)
    (λ past. get_or_past (replicate n no_gap) c no_gap (omega (arith, length-replicate {A = ℕ})))
    (cases_lt c n)

pub hints_none : (heap : ℕ) (blocks : List LiveBlock) (n : ℕ) → AreHints heap blocks (replicate n 0)
hints_none heap blocks n = hints_zero heap blocks (replicate n 0) (zero_at n)
