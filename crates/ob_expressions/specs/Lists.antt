-- Lists of the tree of the program as those of the grammar's trees.
use Rattle.std.specs.Prelude.{ℕ, List, [], ◌∷◌, Ok}
use Rattle.ob_tree.specs.declared.expressions.Expr.{Expr}
use Rattle.ob_tree.specs.declared.expressions.MemberDecl.{MemberDecl, MemberDecl'}
use Rattle.ob_tree.specs.declared.expressions.Dim.{Dim, Dim', Dim-length-None', Dim-length-Some'}
use Rattle.ob_tree.specs.Trees.{ExprTrees, MemberTrees}
use Rattle.ob_tree.specs.Levels.{mark_of}
use Rattle.ob_tree.specs.ExpressionView.{expr_tree, node_tree, spec_node_tree, obj_row}
use Rattle.ob_typed.specs.Faults.{Walk, by, next}
use Rattle.ob_typed.specs.Scopes.{Env, Known}
use Rattle.ob_typed.specs.Conversions.{value}
use Rattle.ob_typed.specs.Specifiers.{length_rule}
use Rattle.ob_typed.specs.Expressions.{check}

abbrev pub expr_trees : List Expr → ExprTrees
expr_trees [] = ExprTrees.NoArguments
expr_trees (e ∷ es) = ExprTrees.Argument (expr_tree e) (expr_trees es)

abbrev pub member_trees : List MemberDecl → MemberTrees
member_trees [] = MemberTrees.NoMembers
member_trees (MemberDecl' f s r names ∷ ms) = MemberTrees.MemberLine (spec_node_tree s f) (obj_row names) (member_trees ms)

-- the length in one pair of brackets
abbrev pub dim_length : Env → Dim → Known → Walk Known ℕ
dim_length env (Dim' Dim-length-None') k = Ok (0, k)
dim_length env (Dim' (Dim-length-Some' f a l e)) k =
    next (check env (node_tree e f a l) k) (λ x k1. by (length_rule (mark_of (node_tree e f a l)) (value x)) k1)
