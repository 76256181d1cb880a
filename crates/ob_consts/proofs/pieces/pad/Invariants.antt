use Rattle.std.proofs.Common.{◌≡◌, ◌++◌}
use Rattle.ob_typed.specs.Images.{zeros}
use Rattle.ob_consts.proofs.pieces.pad.Given as goal

abbrev pub invariant-loop : goal.invariant-loop
invariant-loop l = l.bytes ≡ l.fn.bytes ++ zeros l.counter
