use Rattle.std.proofs.Common.{◌≡◌, ◌≤◌, take}
use Rattle.std.specs.Prelude.{sum_by}
use Rattle.ob_tree.specs.StructsView.{plain_structs}
use Rattle.ob_limits.proofs.Sums.{object_block}
use Rattle.ob_limits.proofs.limit.has_great_statics.Given as goal

abbrev pub invariant-loop-object : goal.invariant-loop-object
invariant-loop-object l = record {
  total : l.bytes ≡ sum_by (object_block (plain_structs l.t.structs)) (take l.object-index l.object-items);
  few : l.bytes ≤ 4194304;
}
