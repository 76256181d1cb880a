use Rattle.std.proofs.Common.{◌≡◌, take}
use Rattle.ob_sources.specs.Positions.{position_behind}
use Rattle.ob_sources.proofs.position.position_behind.Given as goal

abbrev pub invariant-loop-byte : goal.invariant-loop-byte
invariant-loop-byte l = l.position ≡ position_behind (take l.byte-index l.before)
