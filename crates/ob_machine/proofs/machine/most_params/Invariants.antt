use Rattle.std.proofs.Common.{ℕ, ◌<◌, ◌≤◌}
use Rattle.ob_code.specs.Frames.{function_at}
use Rattle.ob_machine.proofs.machine.most_params.Given as goal

abbrev pub invariant-loop-function : goal.invariant-loop-function
invariant-loop-function l = (f : ℕ) → f < l.function-index → (function_at l.functions f).params ≤ l.most
