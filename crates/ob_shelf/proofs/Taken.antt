-- A block in the first gap that is long enough.
use Rattle.std.proofs.Common.{◌≡◌, ℕ, ◌%◌, ◌<◌, ◌≤◌, List, length, get_or, arith, Some, subst}
use Rattle.std.specs.Prelude.{insert}
use Rattle.std.proofs.lemmas.List.{get_or_default}
use Rattle.ob_model.specs.Heap.{with_block}
use Rattle.ob_shelf.specs.declared.blocks.LiveBlock.{LiveBlock}
use Rattle.ob_shelf.specs.Blocks.{as_block, as_blocks, no_block, gap_start, AreLaid, IsFirstGap, Precedes}
use Rattle.ob_shelf.proofs.FirstGap.{gap_aligned, gap_end-within, ends_before, starts_behind}
use Rattle.ob_shelf.proofs.Edits.{with_block-insert, AreLaid-insert}

module _ (heap : ℕ) (blocks : List LiveBlock) (size i p : ℕ) (laid : AreLaid heap blocks) (gap : IsFirstGap heap blocks size (Some i)) (place : p ≡ gap_start blocks i) (least : 16 ≤ size) where
  abbrev block_there : LiveBlock
  block_there = record { place = p; length = size }

  before : (k : ℕ) (d : LiveBlock) → k < i → Precedes (get_or blocks k d) block_there
  before k d less =
      let inside : k < length blocks = omega (arith, gap.0) in
      let ends = ends_before heap blocks size laid i k gap.0 less in
      subst (λ (b : LiveBlock). Precedes b block_there) (get_or_default blocks k no_block d inside) (omega (arith, ends, place))

  after : (k : ℕ) (d : LiveBlock) → i ≤ k → k < length blocks → Precedes block_there (get_or blocks k d)
  after k d more below =
      let starts = starts_behind heap blocks size laid i k more below in
      subst (λ (b : LiveBlock). Precedes block_there b) (get_or_default blocks k no_block d below) (omega (arith, starts, place, gap.1))

  pub AreLaid-taken : size % 16 ≡ 0 → AreLaid heap (insert blocks i block_there)
  AreLaid-taken whole =
      let aligned = gap_aligned heap blocks size laid i gap.0 in
      let within = gap_end-within heap blocks size laid i gap.0 in
      AreLaid-insert heap blocks i block_there laid gap.0 (omega (arith, aligned, place), whole, least) (omega (arith, within, place, gap.1)) before after

  pub with_block-taken : as_blocks (insert blocks i block_there) ≡ with_block (as_block block_there) (as_blocks blocks)
  with_block-taken =
      with_block-insert block_there blocks i gap.0
      (λ k d less. let e = before k d less in omega arith)
      (λ k d more below. let e = after k d more below in omega (arith, e, least))
