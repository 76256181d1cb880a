-- One block more, and one less.
use Rattle.std.proofs.Common.{◌≡◌, ℕ, zero, suc, ◌+◌, ◌-◌, ◌*◌, ◌<◌, ◌≤◌, true, false, not, List, [], ◌∷◌, length, get_or, arith, ap, ⊎_elim, sym, ◌∙◌, subst, refl}
use Rattle.std.specs.Prelude.{◌==◌, insert, remove}
use Rattle.std.specs.List.{All, AllPairs}
use Rattle.std.proofs.lemmas.Bool.{cases_eq, cases_lt, lt-ltb, le-ltb, eq-eqb, ne_eqb, cond-true, cond-false}
use Rattle.std.proofs.lemmas.List.Edits.{length-insert, get_or-insert_below, get_or-insert_at, get_or-insert_above, length-remove, get_or-remove_below, get_or-remove_above}
use Rattle.std.proofs.lemmas.List.Quantifiers.{all_pairs_remove}
use Rattle.ob_model.specs.Heap.{Block, with_block, without_place}
use Rattle.ob_model.specs.Ordered.{before_or_after}
use Rattle.ob_shelf.specs.declared.blocks.LiveBlock.{LiveBlock}
use Rattle.ob_shelf.specs.Blocks.{as_block, as_blocks, no_block, IsInOrder, IsGranular, Precedes, AreLaid}
use Rattle.ob_shelf.proofs.Order.{places_rise}

-- put at its place
pub with_block-insert : (b : LiveBlock) (blocks : List LiveBlock) (at : ℕ) → at ≤ length blocks → ((k : ℕ) (d : LiveBlock) → k < at → (get_or blocks k d).place ≤ b.place) → ((k : ℕ) (d : LiveBlock) → at ≤ k → k < length blocks → b.place < (get_or blocks k d).place) → as_blocks (insert blocks at b) ≡ with_block (as_block b) (as_blocks blocks)
with_block-insert b [] zero within before after = refl
with_block-insert b [] (suc at) within before after = absurd (omega arith)
with_block-insert b (c ∷ cs) zero within before after =
    ap (λ t. before_or_after t (as_block b) (as_block c) (as_blocks cs) (with_block (as_block b) (as_blocks cs))) (sym (lt-ltb b.place c.place (after 0 b (omega arith) (omega arith))))
with_block-insert b (c ∷ cs) (suc at) within before after =
    ap (λ (bs : List Block). as_block c ∷ bs) (with_block-insert b cs at (omega arith) (λ k d less. before (suc k) d (omega arith)) (λ k d more below. after (suc k) d (omega arith) (omega arith)))
    ∙ ap (λ t. before_or_after t (as_block b) (as_block c) (as_blocks cs) (with_block (as_block b) (as_blocks cs))) (sym (le-ltb b.place c.place (before 0 b (omega arith))))

-- none starts there
pub without_place-none : (place : ℕ) (blocks : List LiveBlock) → ((k : ℕ) (d : LiveBlock) → k < length blocks → (get_or blocks k d).place ≡ place → ⊥) → without_place place (as_blocks blocks) ≡ as_blocks blocks
without_place-none place [] none = refl
without_place-none place (b ∷ bs) none =
    let other : (b.place == place) ≡ false = ne_eqb b.place place (none 0 b (omega arith)) in
    cond-true (not (b.place == place)) (as_block b ∷ without_place place (as_blocks bs)) (without_place place (as_blocks bs)) (ap not other)
    ∙ ap (λ (cs : List Block). as_block b ∷ cs) (without_place-none place bs (λ k d below. none (suc k) d (omega arith)))

-- one does
pub without_place-remove : (place : ℕ) (blocks : List LiveBlock) (i : ℕ) → i < length blocks → ((d : LiveBlock) → (get_or blocks i d).place ≡ place) → ((k : ℕ) (d : LiveBlock) → k < length blocks → (k ≡ i → ⊥) → (get_or blocks k d).place ≡ place → ⊥) → as_blocks (remove blocks i) ≡ without_place place (as_blocks blocks)
without_place-remove place [] i within here others = absurd (omega arith)
without_place-remove place (b ∷ bs) zero within here others =
    let own : (b.place == place) ≡ true = eq-eqb b.place place (here b) in
    sym (cond-false (not (b.place == place)) (as_block b ∷ without_place place (as_blocks bs)) (without_place place (as_blocks bs)) (ap not own)
    ∙ without_place-none place bs (λ k d below. others (suc k) d (omega arith) (λ is. omega arith)))
without_place-remove place (b ∷ bs) (suc i) within here others =
    let other : (b.place == place) ≡ false = ne_eqb b.place place (others 0 b (omega arith) (λ is. omega arith)) in
    ap (λ (cs : List Block). as_block b ∷ cs) (without_place-remove place bs i (omega arith) here (λ k d below apart. others (suc k) d (omega arith) (λ is. apart (omega arith))))
    ∙ sym (cond-true (not (b.place == place)) (as_block b ∷ without_place place (as_blocks bs)) (without_place place (as_blocks bs)) (ap not other))

-- no two blocks start at one place
pub one_place : (blocks : List LiveBlock) (i : ℕ) (place : ℕ) → IsInOrder blocks → All IsGranular blocks → i < length blocks → ((d : LiveBlock) → (get_or blocks i d).place ≡ place) → (k : ℕ) (d : LiveBlock) → k < length blocks → (k ≡ i → ⊥) → (get_or blocks k d).place ≡ place → ⊥
one_place blocks i place in_order granular within here k d below apart same =
    ⊎_elim
    (λ less. let rise = places_rise blocks d k i in_order granular less within in let e = here d in omega arith)
    (λ more. let rise = places_rise blocks d i k in_order granular (omega arith) below in let e = here d in omega arith)
    (cases_lt k i)

module _ (heap : ℕ) (blocks : List LiveBlock) (laid : AreLaid heap blocks) where
  -- block k starts at least 16 * k bytes up
  steps_up : (k : ℕ) → k < length blocks → 16 * k ≤ (get_or blocks k no_block).place
  steps_up zero below = omega arith
  steps_up (suc k) below =
      let rest = steps_up k (omega arith) in
      let order = laid.in_order k (suc k) no_block (omega arith) below in
      let long = (laid.granular k no_block (omega arith)).2 in
      omega arith

  -- so the blocks are few
  pub few_blocks : 16 * length blocks ≤ heap
  few_blocks =
      ⊎_elim
      (λ none. omega arith)
      (λ some.
      let last = steps_up (length blocks - 1) (omega arith) in
      let long = (laid.granular (length blocks - 1) no_block (omega arith)).2 in
      let end = laid.within (length blocks - 1) no_block (omega arith) in
      omega arith)
      (cases_lt (length blocks) 1)

-- an element of a list with one more is the new one or an old one, on its side
pub inserted : {X : Type 0} (P : X → Type 0) (xs : List X) (at : ℕ) (x d : X) (k : ℕ) → at ≤ length xs → k < length (insert xs at x) → (k < at → P (get_or xs k d)) → (k ≡ at → P x) → (at < k → P (get_or xs (k - 1) d)) → P (get_or (insert xs at x) k d)
inserted P xs at x d k within below before here after =
    ⊎_elim
    (λ less. subst P (sym (get_or-insert_below xs at x d k less within)) (before less))
    (λ more. ⊎_elim
    (λ is. subst P (sym (ap (λ i. get_or (insert xs at x) i d) is ∙ get_or-insert_at xs at x d within)) (here is))
    (λ apart.
    let back : k ≡ (k - 1) + 1 = omega arith in
    subst P (sym (ap (λ i. get_or (insert xs at x) i d) back ∙ get_or-insert_above xs at x d (k - 1) (omega arith) within)) (after (omega arith)))
    (cases_eq k at))
    (cases_lt k at)

module _ (heap : ℕ) (blocks : List LiveBlock) (at : ℕ) (b : LiveBlock) (laid : AreLaid heap blocks) (within : at ≤ length blocks) (granular : IsGranular b) (end : b.place + b.length ≤ heap)
    (before : (k : ℕ) (d : LiveBlock) → k < at → Precedes (get_or blocks k d) b) (after : (k : ℕ) (d : LiveBlock) → at ≤ k → k < length blocks → Precedes b (get_or blocks k d)) where
  long : length (insert blocks at b) ≡ length blocks + 1
  long = length-insert blocks at b within

  order : AllPairs Precedes (insert blocks at b)
  order i j d less below =
      inserted (λ (x : LiveBlock). Precedes x (get_or (insert blocks at b) j d)) blocks at b d i within (omega arith)
      (λ i_before. inserted (λ (y : LiveBlock). Precedes (get_or blocks i d) y) blocks at b d j within below
      (λ j_before. laid.in_order i j d less (omega arith))
      (λ j_at. before i d i_before)
      (λ j_after. laid.in_order i (j - 1) d (omega arith) (omega (arith, long))))
      (λ i_at. inserted (λ (y : LiveBlock). Precedes b y) blocks at b d j within below
      (λ j_before. absurd (omega arith))
      (λ j_at. absurd (omega arith))
      (λ j_after. after (j - 1) d (omega arith) (omega (arith, long))))
      (λ i_after. inserted (λ (y : LiveBlock). Precedes (get_or blocks (i - 1) d) y) blocks at b d j within below
      (λ j_before. absurd (omega arith))
      (λ j_at. absurd (omega arith))
      (λ j_after. laid.in_order (i - 1) (j - 1) d (omega arith) (omega (arith, long))))

  pub AreLaid-insert : AreLaid heap (insert blocks at b)
  AreLaid-insert = record {
    small = laid.small;
    in_order = order;
    granular = λ k d below. inserted IsGranular blocks at b d k within below
        (λ k_before. laid.granular k d (omega arith)) (λ k_at. granular) (λ k_after. laid.granular (k - 1) d (omega (arith, long)));
    within = λ k d below. inserted (λ (x : LiveBlock). x.place + x.length ≤ heap) blocks at b d k within below
        (λ k_before. laid.within k d (omega arith)) (λ k_at. end) (λ k_after. laid.within (k - 1) d (omega (arith, long)));
  }

-- an element of a list with one less is an old one, on its side
pub removed : {X : Type 0} (P : X → Type 0) (xs : List X) (at : ℕ) (d : X) (k : ℕ) → at < length xs → (k < at → P (get_or xs k d)) → (at ≤ k → P (get_or xs (k + 1) d)) → P (get_or (remove xs at) k d)
removed P xs at d k within before after =
    ⊎_elim
    (λ less. subst P (sym (get_or-remove_below xs at d k less within)) (before less))
    (λ more. subst P (sym (get_or-remove_above xs at d k more within)) (after more))
    (cases_lt k at)

pub AreLaid-remove : (heap : ℕ) (blocks : List LiveBlock) (at : ℕ) → AreLaid heap blocks → at < length blocks → AreLaid heap (remove blocks at)
AreLaid-remove heap blocks at laid within =
    let short : length (remove blocks at) + 1 ≡ length blocks = length-remove blocks at within in
    record {
      small = laid.small;
      in_order = all_pairs_remove Precedes blocks at within laid.in_order;
      granular = λ k d below. removed IsGranular blocks at d k within
          (λ k_before. laid.granular k d (omega arith)) (λ k_after. laid.granular (k + 1) d (omega (arith, short)));
      within = λ k d below. removed (λ (x : LiveBlock). x.place + x.length ≤ heap) blocks at d k within
          (λ k_before. laid.within k d (omega arith)) (λ k_after. laid.within (k + 1) d (omega (arith, short)));
    }

pub AreLaid-none : (heap : ℕ) (blocks : List LiveBlock) → heap ≤ 67108864 → blocks ≡ [] → AreLaid heap blocks
AreLaid-none heap blocks small none =
    let empty : length blocks ≡ 0 = ap length none in
    record {
      small = small;
      in_order = λ i j d less below. absurd (omega (arith, empty));
      granular = λ k d below. absurd (omega (arith, empty));
      within = λ k d below. absurd (omega (arith, empty));
    }
