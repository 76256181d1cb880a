use Rattle.std.proofs.Common.{◌≡◌, length}
use Rattle.ob_lexer.specs.Scan.{line_end_from}
use Rattle.ob_lexer.proofs.includes.line_end.Given as goal

abbrev pub invariant-loop-left : goal.invariant-loop-left
invariant-loop-left l = line_end_from 0 l.left ≡ line_end_from 0 l.fn.rest

abbrev pub decreases-loop-left : goal.decreases-loop-left
decreases-loop-left l = length l.left
