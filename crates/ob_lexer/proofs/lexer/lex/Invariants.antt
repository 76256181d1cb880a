use Rattle.std.proofs.Common.{length, ◌-◌}
use Rattle.ob_lexer.proofs.CursorLemmas.{Reading}
use Rattle.ob_lexer.proofs.lexer.lex.Given as goal

abbrev pub invariant-loop-place : goal.invariant-loop-place
invariant-loop-place l = Reading l.bytes l.tokens.items l.place

abbrev pub decreases-loop-place : goal.decreases-loop-place
decreases-loop-place l = length l.bytes - l.place.at
