-- What the parser has read, as the machine sees it, and what a token leads to.
use Rattle.std.specs.Prelude.{◌≡◌, ◌<◌, [], Option, Some, None}
use Rattle.ob_tree.specs.declared.tokens.TokenKind.{TokenKind}
use Rattle.ob_tree.specs.Trees.{Mark}
use Rattle.ob_tree.specs.ExpressionView.{spec_tree, dim_trees, init_tree}
use Rattle.ob_tree.specs.ProgramView.{stmt_tree, params_tree, item_tree}
use Rattle.std.specs.Prelude.{map}
use Rattle.ob_tree.specs.ExprMachine as reader
use Rattle.ob_tree.specs.ProgramStates as plain
use Rattle.ob_tree.specs.ProgramMachine.{read, specify}
use Rattle.ob_declarations.specs.declared.state.State.{State}
use Rattle.ob_declarations.specs.declared.state.State.TheVariants as state
use Rattle.ob_declarations.specs.declared.state.Shift.{Shift}
use Rattle.ob_declarations.specs.declared.state.Shift.TheVariants as shift
use Rattle.ob_declarations.specs.View.{pending_stmts_of, declaration_of, declarator_of, param_list_of, head_of, init_declarator_of, init_lists_of, spec_context_of, expr_context_of}

abbrev pub state_of : State → plain.State
state_of (state.Items items) = plain.Items (map item_tree items.items)
state_of (state.Specifying u) = plain.Specifying (spec_context_of u) (reader.Specifier [])
state_of (state.Declare d n) = plain.Declare (declaration_of d.value) n
state_of (state.Dims h ds) = plain.Dims (head_of h) (dim_trees ds.items)
state_of (state.Optional u) = plain.Optional (expr_context_of u)
state_of (state.Reading u) = plain.Reading (expr_context_of u) (reader.BeforeOperand [])
state_of (state.Init t bs) = plain.Init (init_declarator_of t) (init_lists_of bs.items)
state_of (state.AfterInit t bs i) = plain.AfterInit (init_declarator_of t) (init_lists_of bs.items) (init_tree i)
state_of (state.Params l) = plain.Params (param_list_of l)
state_of (state.NextParam l) = plain.NextParam (param_list_of l)
state_of (state.Param l f n s i) = plain.Param (param_list_of l) f n (spec_tree s.value) i
state_of (state.Closed x ps) = plain.Closed (declarator_of x) (params_tree ps)
state_of (state.Begin fs) = plain.Begin (pending_stmts_of fs.items)
state_of (state.Opening u) = plain.Opening (expr_context_of u)
state_of (state.ForWord f n fs) = plain.ForWord f n (pending_stmts_of fs.items)
state_of (state.ForOpen f n fs) = plain.ForOpen f n (pending_stmts_of fs.items)
state_of (state.Semi s fs) = plain.Semi (stmt_tree s.value) (pending_stmts_of fs.items)
state_of (state.Done s fs) = plain.Done (stmt_tree s.value) (pending_stmts_of fs.items)

-- What the machine does with a token of this kind: it goes to the state, or reads an expression or a specifier that
-- begins with the token, or goes no further.
abbrev pub Leads : Mark → TokenKind → Shift → Option plain.State → Type 0
Leads m k (shift.Shifted s) next = next ≡ Some (state_of s)
Leads m k (shift.NeedsExpr u) next = next ≡ read m k (expr_context_of u) (reader.BeforeOperand [])
Leads m k (shift.NeedsSpec u) next = next ≡ specify m k (spec_context_of u) (reader.Specifier [])
Leads m k shift.Rejected next = next ≡ None

-- the state behind a token, or none where no program goes on so
abbrev pub Reaches : Option State → Option plain.State → Type 0
Reaches (Some s) next = next ≡ Some (state_of s)
Reaches None next = next ≡ None

abbrev pub shifted : Option State → Shift
shifted (Some s) = shift.Shifted s
shifted None = shift.Rejected

-- few stars were read of a declarator or a parameter
abbrev pub FewStars : plain.State → Type 0
FewStars (plain.Declare d n) = n < 1000
FewStars (plain.Param l f n s i) = i < 1000
FewStars s = Unit {0}
