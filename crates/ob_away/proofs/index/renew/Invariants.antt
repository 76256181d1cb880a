use Rattle.std.proofs.Common.{◌+◌, ◌≤◌}
use Rattle.std.specs.HashMap.{spare}
use Rattle.ob_away.specs.Kept.{capacity}
use Rattle.ob_away.proofs.Names.{NamesFirst}
use Rattle.ob_away.proofs.index.renew.Given as goal

abbrev pub invariant-loop-slot : goal.invariant-loop-slot
invariant-loop-slot l = record {
  so_far : NamesFirst l.index l.slots l.slot;
  grown : capacity l.fn.index ≤ capacity l.index;
  left : capacity l.fn.index ≤ spare l.index + l.slot;
}
