use Rattle.std.proofs.Common.{◌≡◌, length, []}
use Rattle.ob_tree.specs.Characters.{characters}
use Rattle.ob_lexer.specs.Scan.{bytes_from}
use Rattle.ob_lexer.proofs.quotes.bytes_of.Given as goal

abbrev pub invariant-loop-rest : goal.invariant-loop-rest
invariant-loop-rest l = bytes_from l.bytes (characters l.rest) ≡ bytes_from [] (characters l.fn.body)

abbrev pub decreases-loop-rest : goal.decreases-loop-rest
decreases-loop-rest l = length l.rest
