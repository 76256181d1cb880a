use Rattle.std.proofs.Common.{◌≡◌, take}
use Rattle.std.specs.List.{flat_map}
use Rattle.ob_tree.specs.ProgramSpelling.{spell_item}
use Rattle.ob_tree.specs.ProgramView.{item_tree}
use Rattle.ob_tree.proofs.program_spelling.spell.Given as goal

abbrev pub invariant-loop-item : goal.invariant-loop-item
invariant-loop-item l = l.out.items ≡ flat_map (λ i. spell_item (item_tree i)) (take l.item-index l.item-items)
