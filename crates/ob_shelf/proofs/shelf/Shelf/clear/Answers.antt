use Rattle.std.proofs.Common.{arith, refl}
use Rattle.ob_shelf.proofs.Edits.{AreLaid-none}
use Rattle.ob_shelf.proofs.HintsHold.{hints_none}
use Rattle.ob_shelf.proofs.shelf.Shelf.clear.Goals as goal

pub invariant_of-self : goal.invariant_of-self
invariant_of-self c = record {
  laid = AreLaid-none c.self.inside.heap c.clear.new.self.items c.self.invariant.laid.small c.clear.ensures.items;
  fit = omega (arith, c.clear.ensures.capacity, c.self.invariant.fit);
  hints_hold = hints_none c.self.inside.heap c.clear.new.self.items 65;
  classes = refl;
}
