use Rattle.std.proofs.Common.{◌≡◌, ℕ, ◌+◌, ◌≤◌, length, take}
use Rattle.std.specs.Prelude.{slice_index_or}
use Rattle.ob_code.specs.Layout.{static_blocks}
use Rattle.ob_statics.proofs.bases.bases_of.Given as goal

abbrev pub invariant-loop-row : goal.invariant-loop-row
invariant-loop-row l = record {
  base : l.base ≡ 4096 + static_blocks (take l.row-index l.rows);
  count : length l.bases.items ≡ l.row-index + 1;
  each : (i : ℕ) → i ≤ l.row-index → slice_index_or l.bases.items i 0 ≡ 4096 + static_blocks (take i l.rows);
}
