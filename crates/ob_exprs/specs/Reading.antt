-- What the parser has read, as the machine sees it, and what a token leads to.
use Rattle.std.specs.Prelude.{◌≡◌, ◌≤◌, List, Option, Some, None}
use Rattle.ob_tree.specs.ExpressionView.{expr_tree, spec_tree, dim_trees}
use Rattle.ob_tree.specs.ExprStates as plain
use Rattle.ob_tree.specs.ExprStates.{PendingNode, State}
use Rattle.ob_tree.specs.ExprMachine.{finish, finish_spec}
use Rattle.ob_exprs.specs.declared.state.Mode.{Mode}
use Rattle.ob_exprs.specs.declared.state.Mode.TheVariants as mode
use Rattle.ob_exprs.specs.declared.stack.Stack.{Stack}
use Rattle.ob_exprs.specs.declared.reader.Reader.{Reader}
use Rattle.ob_exprs.specs.declared.reader.Shift.{Shift}
use Rattle.ob_exprs.specs.declared.reader.Shift.TheVariants as outcome
use Rattle.ob_exprs.specs.DeepestPaths.{deepest_path}
use Rattle.ob_exprs.specs.View.{mark, body_of, line_of, head_of, pending_nodes}

abbrev pub held : Stack → List PendingNode
held s = pending_nodes s.pending.items

abbrev pub mode_state : Mode → List PendingNode → State
mode_state mode.BeforeOperand fs = plain.BeforeOperand fs
mode_state (mode.Open p) fs = plain.Open (mark p) fs
mode_state (mode.Size p) fs = plain.Size (mark p) fs
mode_state (mode.SizeOpen p q) fs = plain.SizeOpen (mark p) (mark q) fs
mode_state (mode.Called p name) fs = plain.Called (mark p) name fs
mode_state (mode.Select p arrow b) fs = plain.Select (mark p) arrow (expr_tree b.expr.value) fs
mode_state (mode.AfterOperand e) fs = plain.AfterOperand (expr_tree e.expr.value) fs
mode_state mode.Specifier fs = plain.Specifier fs
mode_state (mode.StructWord f) fs = plain.StructWord f fs
mode_state (mode.Members b) fs = plain.Members (body_of b) fs
mode_state (mode.Declare l n) fs = plain.Declare (line_of l) n fs
mode_state (mode.Dims h ds) fs = plain.Dims (head_of h) (dim_trees ds.items.items) fs
mode_state (mode.AfterSpec s) fs = plain.AfterSpec (spec_tree s.spec) fs

abbrev pub state_of : Reader → State
state_of r = mode_state r.mode (held r.stack)

-- what a token leads to that nothing whole stands before
abbrev pub Leads : Option Reader → Option State → Type 0
Leads (Some r) next = next ≡ Some (state_of r)
Leads None next = next ≡ None

-- what one token leads to: the next state, or none, and then what was read is unchanged
abbrev pub Shifts : State → Shift → Option State → Type 0
Shifts s (outcome.Shifted r) next = next ≡ Some (state_of r)
Shifts s (outcome.Ended r) next =
    (next ≡ None) × (finish (state_of r) ≡ finish s) × (finish_spec (state_of r) ≡ finish_spec s) × (deepest_path (state_of r) ≤ deepest_path s)
Shifts s outcome.Rejected next = (next ≡ None) × (finish s ≡ None) × (finish_spec s ≡ None)
