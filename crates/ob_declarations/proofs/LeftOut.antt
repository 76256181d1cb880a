-- What the steps through expressions need of the machine.
use Rattle.std.proofs.Common.{◌≡◌, ◌≢◌, ℕ, zero, List, [], ◌∷◌, ◌++◌, length, Bool, true, false, Option, Some, None, refl, sym, ◌∙◌, ap, subst, arith}
use Rattle.ob_tree.specs.declared.tokens.TokenKind.{TokenKind}
use Rattle.ob_tree.specs.declared.expressions.Expr.{Expr}
use Rattle.ob_tree.specs.declared.expressions.ExprNode.TheBlock as block
use Rattle.ob_tree.specs.declared.expressions.ExprNode.TheBlock.{Dim-length-None', Dim-length-Some'}
use Rattle.ob_tree.specs.declared.expressions.Dim.{Dim, Dim', roll-Dim, out-roll-Dim, is-Dim'}
use Rattle.ob_tree.specs.Trees.{Mark, DimTrees, InitTree}
use Rattle.ob_tree.specs.ExpressionView.{node_tree, expr_tree, dim_trees}
use Rattle.ob_tree.specs.ExprStates.{add_dim}
use Rattle.ob_tree.specs.ExprMachine as expr
use Rattle.ob_tree.specs.ProgramStates as plain
use Rattle.ob_tree.specs.ProgramParts.{at_bracket}
use Rattle.ob_tree.specs.ProgramMachine.{first_length, used, read, optional, optional_to}
use Rattle.ob_declarations.specs.declared.state.State.{State}
use Rattle.ob_declarations.specs.Statements.{goes_on}
use Rattle.ob_declarations.specs.Shifts.{Leads, Reaches, shifted}
use Rattle.ob_declarations.proofs.Pushed.{reaches_leads}

-- brackets without a length
no-dim : roll-Dim (record { length = None }) ≡ Dim' Dim-length-None'
no-dim = is-Dim' (roll-Dim (record { length = None })) ∙ ap (λ r. Dim' (block.back-Dim-length r.length)) (out-roll-Dim (record { length = None }))

pub unsized_pushed : (ds : List Dim) → length ds ≡ 0 → dim_trees (ds ++ roll-Dim (record { length = None }) ∷ []) ≡ DimTrees.Unsized DimTrees.NoDims
unsized_pushed [] h = ap (λ d. dim_trees (d ∷ [])) no-dim
unsized_pushed (d ∷ ds) h = absurd (omega arith)

pub first_length_none : (k : TokenKind) (h : plain.Head) (ds : List Dim) → length ds ≢ 0 → first_length k h (dim_trees ds) ≡ None
first_length_none k h [] n = absurd (n refl)
first_length_none k h (Dim' Dim-length-None' ∷ ds) n = refl
first_length_none k h (Dim' (Dim-length-Some' f a l e) ∷ ds) n = refl

pub first_length_some : (k : TokenKind) (h : plain.Head) (ds : List Dim) → length ds ≡ 0
    → first_length k h (dim_trees ds) ≡ at_bracket k (plain.Dims h (DimTrees.Unsized DimTrees.NoDims))
first_length_some k h [] n = refl
first_length_some k h (d ∷ ds) n = absurd (omega arith)

-- an expression that may be left out
goes-to : (m : Mark) (k : TokenKind) (u : plain.ExprContext) (o : Option plain.State) → goes_on o ≡ true → optional_to m k u o ≡ o
goes-to m k u None h = absurd cc
goes-to m k u (Some s) h = refl

reads-to : (m : Mark) (k : TokenKind) (u : plain.ExprContext) (o : Option plain.State) → goes_on o ≡ false → optional_to m k u o ≡ read m k u (expr.BeforeOperand [])
reads-to m k u None h = refl
reads-to m k u (Some s) h = absurd cc

pub left_out : (k : TokenKind) (u : plain.ExprContext) (o : Option State) → true ≡ goes_on (used k u None) → Reaches o (used k u None)
    → (m : Mark) → Leads m k (shifted o) (optional m k u)
left_out k u o g h m =
    subst (λ next. Leads m k (shifted o) next) (sym (goes-to m k u (used k u None) (sym g))) (reaches_leads m k o (used k u None) h)

pub stands : (k : TokenKind) (u : plain.ExprContext) → false ≡ goes_on (used k u None) → (m : Mark) → optional m k u ≡ read m k u (expr.BeforeOperand [])
stands k u g m = reads-to m k u (used k u None) (sym g)
