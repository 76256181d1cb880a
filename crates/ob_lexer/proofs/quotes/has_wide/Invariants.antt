use Rattle.std.proofs.Common.{◌≡◌, length}
use Rattle.std.specs.List.{list_any}
use Rattle.ob_tree.specs.Characters.{characters}
use Rattle.ob_lexer.specs.Scan.{is_wide}
use Rattle.ob_lexer.proofs.quotes.has_wide.Given as goal

abbrev pub invariant-loop-rest : goal.invariant-loop-rest
invariant-loop-rest l = list_any is_wide (characters l.rest) ≡ list_any is_wide (characters l.fn.body)

abbrev pub decreases-loop-rest : goal.decreases-loop-rest
decreases-loop-rest l = length l.rest
