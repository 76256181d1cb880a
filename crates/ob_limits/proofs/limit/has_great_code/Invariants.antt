use Rattle.std.proofs.Common.{◌≡◌, ◌+◌, take}
use Rattle.std.specs.Prelude.{sum_by}
use Rattle.ob_limits.proofs.Sums.{function_weight}
use Rattle.ob_limits.proofs.limit.has_great_code.Given as goal

-- what is left and what the functions so far weigh is the limit
abbrev pub invariant-loop-function : goal.invariant-loop-function
invariant-loop-function l = sum_by function_weight (take l.function-index l.function-items) + l.left ≡ 1048576
