use Rattle.std.proofs.Common.{drop, map}
use Rattle.ob_tree.specs.TypeView.{plain_member}
use Rattle.ob_members.specs.Indexes.{AreNamed}
use Rattle.ob_members.proofs.building.named.Given as goal

abbrev pub invariant-loop-i : goal.invariant-loop-i
invariant-loop-i l = AreNamed l.i (drop l.i l.offsets.items) (map plain_member (drop l.i l.members.items)) l.places.bindings
