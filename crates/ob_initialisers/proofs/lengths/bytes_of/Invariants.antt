use Rattle.std.proofs.Common.{◌≡◌, ◌+◌, drop, length}
use Rattle.ob_typed.specs.Strings.{joined_bytes}
use Rattle.ob_initialisers.proofs.lengths.bytes_of.Given as goal

abbrev pub invariant-loop-string : goal.invariant-loop-string
invariant-loop-string l = l.total + length (joined_bytes (drop l.string-index l.strings.items)) ≡ length (joined_bytes l.strings.items)
