use Rattle.std.proofs.Common.{◌≡◌, ◌++◌, take}
use Rattle.std.specs.List.{flat_map}
use Rattle.ob_tree.specs.ProgramSpelling.{spell_block}
use Rattle.ob_tree.specs.ProgramView.{one_item}
use Rattle.ob_tree.proofs.program_spelling.+statements.Given as goal

abbrev pub invariant-put_block-loop-item : goal.invariant-put_block-loop-item
invariant-put_block-loop-item l = l.out.items ≡ l.fn.out.items ++ flat_map (λ i. spell_block (one_item i)) (take l.item-index l.items)
