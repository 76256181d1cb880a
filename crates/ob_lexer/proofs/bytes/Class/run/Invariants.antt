use Rattle.std.proofs.Common.{◌≡◌, ◌+◌, drop}
use Rattle.std.specs.List.{prefix_len}
use Rattle.ob_lexer.specs.Scan.{has}
use Rattle.ob_lexer.proofs.bytes.Class.run.Given as goal

abbrev pub invariant-loop-i : goal.invariant-loop-i
invariant-loop-i l = l.i + prefix_len (has l.self) (drop l.i l.bytes) ≡ prefix_len (has l.self) l.bytes
