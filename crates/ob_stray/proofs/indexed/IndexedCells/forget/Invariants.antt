use Rattle.std.proofs.Common.{◌≡◌, length}
use Rattle.ob_stray.specs.Kept.{others}
use Rattle.ob_stray.proofs.indexed.IndexedCells.forget.Given as goal

abbrev pub invariant-loop : goal.invariant-loop
invariant-loop l = (others l.object l.self.entries ≡ others l.object l.initial.self.entries) × (l.self.cap ≡ l.initial.self.cap)

abbrev pub decreases-loop : goal.decreases-loop
decreases-loop l = length l.self.entries
