use Rattle.std.proofs.Common.{◌≡◌, drop, map}
use Rattle.ob_tree.specs.ProgramView.{item_tree}
use Rattle.ob_typed.specs.Typing.{place_of}
use Rattle.ob_types.proofs.missing.place_of.Given as goal

abbrev pub invariant-loop-item : goal.invariant-loop-item
invariant-loop-item l = place_of l.name (map item_tree l.items.items) ≡ place_of l.name (map item_tree (drop l.item-index l.items.items))
