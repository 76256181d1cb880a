use Rattle.std.proofs.Common.{◌≡◌, ◌-◌}
use Rattle.ob_image.specs.Reading.{rows}
use Rattle.ob_image.proofs.Loops.{with_front}
use Rattle.ob_image.proofs.rows.rows.Given as goal

abbrev pub invariant-loop : goal.invariant-loop
invariant-loop g l = with_front l.rows.items (rows g.T.Row.reader (l.count - l.counter) l.rest) ≡ rows g.T.Row.reader l.count l.bytes
