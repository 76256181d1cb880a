use Rattle.std.proofs.Common.{◌≡◌, [], drop, reverse, vec_len}
use Rattle.ob_tree.specs.TypeView.{plain_types}
use Rattle.ob_typed.specs.PostfixRules.{passed}
use Rattle.ob_conversions.specs.CheckedView.{mark}
use Rattle.ob_uses.specs.ArgumentView.{arguments}
use Rattle.ob_uses.specs.Passing.{typed_list}
use Rattle.ob_uses.proofs.passing.passed.Given as goal

abbrev pub invariant-loop-a : goal.invariant-loop-a
invariant-loop-a l =
    passed (mark l.m) [] (arguments l.fn.given.items) (plain_types l.params.items)
    ≡ passed (mark l.m) (typed_list l.done) (arguments (reverse l.rest.items)) (drop l.index (plain_types l.params.items))

abbrev pub decreases-loop-a : goal.decreases-loop-a
decreases-loop-a l = vec_len l.rest
