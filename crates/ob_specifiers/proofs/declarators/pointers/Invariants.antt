use Rattle.std.proofs.Common.{◌≡◌}
use Rattle.ob_tree.specs.TypeView.{plain_type}
use Rattle.ob_typed.specs.Specifiers.{pointers}
use Rattle.ob_specifiers.proofs.declarators.pointers.Given as goal

abbrev pub invariant-loop-star : goal.invariant-loop-star
invariant-loop-star l = plain_type l.t ≡ pointers l.star (plain_type l.fn.t)
