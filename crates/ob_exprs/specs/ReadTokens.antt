-- What reading the tokens from a place on as far as possible leaves.
use Rattle.std.specs.Prelude.{◌≡◌, ℕ, ◌≤◌, List, map, drop, Result, Ok, Err}
use Rattle.ob_tree.specs.declared.tokens.Token.{Token}
use Rattle.ob_tree.specs.declared.faults.SyntaxFault.{SyntaxFault}
use Rattle.ob_tree.specs.declared.faults.SyntaxFault.TheVariants as fault
use Rattle.ob_tree.specs.Places.{here}
use Rattle.ob_tree.specs.Fronts.{greatest_path, lines}
use Rattle.ob_tree.specs.ExprStates.{State}
use Rattle.ob_tree.specs.ExprMachine.{shift, finish, finish_spec}
use Rattle.ob_tree.specs.Readings as machine
use Rattle.ob_exprs.specs.declared.reader.Reader.{Reader}
use Rattle.ob_exprs.specs.DeepestPaths.{deepest_path}
use Rattle.ob_exprs.specs.Reading.{state_of}

-- what the machine leaves that holds this at place i
abbrev pub reading : List Token → (least depth i : ℕ) → State → machine.Reading State
reading ts least depth i s = machine.read (λ q k t. shift least (here (lines ts) q) k t) deepest_path depth i (map (λ t. t.kind) (drop i ts)) s

-- The machine stops at i, and what the reader holds finishes as what the machine holds there.
pub record Stands (left : machine.Reading State) (i : ℕ) (r : Reader) : Type 0 where
  pub state : State
  pub reached : left ≡ machine.Reached i state
  pub finishes : finish (state_of r) ≡ finish state
  pub finishes_spec : finish_spec (state_of r) ≡ finish_spec state
  pub small : deepest_path (state_of r) ≤ greatest_path

abbrev pub Leaves : (left : machine.Reading State) → Result (Reader × ℕ) SyntaxFault → Type 0
Leaves left (Ok r) = Stands left r.1 r.0
Leaves left (Err (fault.TooDeep i)) = left ≡ machine.Deep i
Leaves left (Err (fault.NoTree i)) = ⊥
Leaves left (Err fault.NoMemory) = Unit {0}
