use Rattle.std.proofs.Common.{◌≡◌, ◌++◌}
use Rattle.ob_tree.specs.Spelling.{stars}
use Rattle.ob_tree.proofs.spelling.put_stars.Given as goal

abbrev pub invariant-loop : goal.invariant-loop
invariant-loop l = l.out.items ≡ l.fn.out.items ++ stars l.counter
