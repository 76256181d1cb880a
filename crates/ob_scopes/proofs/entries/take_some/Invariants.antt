use Rattle.std.proofs.Common.{◌≡◌, drop, reverse}
use Rattle.ob_scopes.specs.Kept.{IsIndexed}
use Rattle.ob_scopes.proofs.entries.take_some.Given as goal

abbrev pub invariant-loop-turn : goal.invariant-loop-turn
invariant-loop-turn g l = record {
  indexed : IsIndexed l.newest (reverse l.entries.items);
  taken : reverse l.entries.items ≡ drop l.turn (reverse l.fn.entries.items);
}
