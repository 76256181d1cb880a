use Rattle.std.proofs.Common.{◌≡◌, ℕ, ◌<◌, ◌≤◌, get_or}
use Rattle.ob_shelf.specs.Blocks.{IsLowered}
use Rattle.ob_shelf.proofs.hints.lower.Given as goal

abbrev pub invariant-loop-class : goal.invariant-loop-class
invariant-loop-class l = record {
  so_far : (c k : ℕ) → c < l.class → k < get_or l.hints c 0 → IsLowered (get_or l.initial.hints c 0) c l.merged l.index k;
  rest : (c : ℕ) → l.class ≤ c → get_or l.hints c 0 ≡ get_or l.initial.hints c 0;
}
