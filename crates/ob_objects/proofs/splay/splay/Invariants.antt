use Rattle.std.proofs.Common.{length}
use Rattle.ob_objects.specs.Spread.{IsRooted}
use Rattle.ob_objects.specs.Trees.{Tree, walk, tree_at}
use Rattle.ob_objects.proofs.Splays.{IsOnWay}
use Rattle.ob_objects.proofs.splay.splay.Given as goal

abbrev pub invariant-loop : goal.invariant-loop
invariant-loop l = (t : Tree) → IsRooted l.fn.nodes l.fn.root t → IsOnWay l.fn.address l.fn.nodes l.nodes l.place t

abbrev pub decreases-loop : goal.decreases-loop
decreases-loop l = length (walk (tree_at l.nodes (length l.nodes) l.place.here))
