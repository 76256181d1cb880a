use Rattle.std.proofs.Common.{◌≡◌, take}
use Rattle.ob_typed.specs.Strings.{joined_bytes}
use Rattle.ob_specifiers.proofs.strings.joined.Given as goal

abbrev pub invariant-loop-string : goal.invariant-loop-string
invariant-loop-string l = l.joined ≡ joined_bytes (take l.string-index l.strings)
