use Rattle.std.proofs.Common.{◌≤◌, ◌-◌, length}
use Rattle.ob_parser.specs.ReadTokens.{Kept}
use Rattle.ob_declarations.specs.Shifts.{state_of}
use Rattle.ob_parser.proofs.read.read.Given as goal

abbrev pub invariant-loop-place : goal.invariant-loop-place
invariant-loop-place l = record { kept : Kept l.tokens.items l.place (state_of l.state); within : l.place ≤ length l.tokens.items }

abbrev pub decreases-loop-place : goal.decreases-loop-place
decreases-loop-place l = length l.tokens.items - l.place
