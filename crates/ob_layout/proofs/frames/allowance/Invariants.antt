use Rattle.std.proofs.Common.{◌≡◌, ◌≤◌, ◌+◌, ◌*◌, map, take}
use Rattle.std.specs.Prelude.{sum}
use Rattle.ob_words.specs.Words.{block}
use Rattle.ob_tree.specs.TypeView.{plain_type}
use Rattle.ob_tree.specs.StructsView.{plain_structs}
use Rattle.ob_tree.specs.Sizes.{size}
use Rattle.ob_layout.proofs.frames.allowance.Given as goal

abbrev pub invariant-loop-local : goal.invariant-loop-local
invariant-loop-local l = record {
  total : l.bytes ≡ 16 + 16 * (l.nodes + l.params) + sum (map (λ t. block (size (plain_structs l.s) (plain_type t))) (take l.local-index l.local-items));
  few : l.bytes ≤ 33554448 + l.local-index * 4194320;
}
