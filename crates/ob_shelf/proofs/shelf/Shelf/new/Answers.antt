use Rattle.std.proofs.Common.{arith, refl}
use Rattle.ob_shelf.proofs.Edits.{AreLaid-none}
use Rattle.ob_shelf.proofs.HintsHold.{hints_none}
use Rattle.ob_shelf.proofs.shelf.Shelf.new.Goals as goal

pub invariant_of-result : goal.invariant_of-result
invariant_of-result c = record {
  laid = AreLaid-none c.args.heap c.in_ok-with_capacity.field-0.items c.requires c.in_ok-with_capacity.ensures.items;
  fit = omega (arith, c.in_ok-with_capacity.ensures.capacity);
  hints_hold = hints_none c.args.heap c.in_ok-with_capacity.field-0.items 65;
  classes = refl;
}
