use Rattle.std.proofs.Common.{◌≡◌, drop}
use Rattle.ob_typed.specs.PostfixRules.{any_unusable}
use Rattle.ob_uses.specs.ArgumentView.{arguments}
use Rattle.ob_uses.proofs.passing.any_unusable.Given as goal

abbrev pub invariant-loop-a : goal.invariant-loop-a
invariant-loop-a l = any_unusable (arguments l.given.items) ≡ any_unusable (arguments (drop l.a-index l.given.items))
