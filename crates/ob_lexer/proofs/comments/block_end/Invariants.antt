use Rattle.std.proofs.Common.{◌≡◌, drop}
use Rattle.ob_lexer.specs.Scan.{block_end_from}
use Rattle.ob_lexer.proofs.comments.block_end.Given as goal

abbrev pub invariant-loop-i : goal.invariant-loop-i
invariant-loop-i l = block_end_from l.i (drop l.i l.rest) ≡ block_end_from 0 l.rest
