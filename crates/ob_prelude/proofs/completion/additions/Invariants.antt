use Rattle.std.proofs.Common.{◌≡◌, take, map}
use Rattle.std.specs.List.{flat_map}
use Rattle.ob_tree.specs.ProgramView.{item_tree, program_tree}
use Rattle.ob_prelude.specs.Completion.{share}
use Rattle.ob_prelude.proofs.completion.additions.Given as goal

abbrev pub invariant-loop-function : goal.invariant-loop-function
invariant-loop-function l = map item_tree l.items.items ≡ flat_map (share (program_tree l.p)) (take l.function-index l.functions)
