use Rattle.std.proofs.Common.{◌≡◌, drop}
use Rattle.ob_tree.specs.StructsView.{plain_structs}
use Rattle.ob_tree.specs.TypeView.{plain_type}
use Rattle.ob_typed.specs.Initialisers.{past_end}
use Rattle.ob_initialisers.specs.Lists.{init_trees}
use Rattle.ob_initialisers.proofs.lists.past_end.Given as goal

abbrev pub invariant-loop-i : goal.invariant-loop-i
invariant-loop-i l =
    past_end (plain_structs l.s) (plain_type l.t) 0 (init_trees l.items.items)
    ≡ past_end (plain_structs l.s) (plain_type l.t) l.i (init_trees (drop l.i l.items.items))
