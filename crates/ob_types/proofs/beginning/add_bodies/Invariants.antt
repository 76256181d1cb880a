use Rattle.std.proofs.Common.{◌≡◌, ◌++◌, drop, map}
use Rattle.ob_tree.specs.ProgramView.{item_tree}
use Rattle.ob_typed.specs.Typing.{body_names}
use Rattle.ob_types.proofs.beginning.add_bodies.Given as goal

abbrev pub invariant-loop-item : goal.invariant-loop-item
invariant-loop-item l =
    l.fn.bodies ++ body_names (map item_tree l.items.items) ≡ l.bodies ++ body_names (map item_tree (drop l.item-index l.items.items))
