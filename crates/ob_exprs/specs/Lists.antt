-- The lists of the program as plain data.
use Rattle.std.specs.Prelude.{List, [], ◌∷◌}
use Rattle.ob_tree.specs.declared.expressions.Expr.{Expr}
use Rattle.ob_tree.specs.declared.expressions.MemberDecl.{MemberDecl, MemberDecl'}
use Rattle.ob_tree.specs.Trees.{ExprTrees, MemberTrees}
use Rattle.ob_tree.specs.ExpressionView.{expr_tree, spec_node_tree, obj_row}

abbrev pub argument_trees : List Expr → ExprTrees
argument_trees [] = ExprTrees.NoArguments
argument_trees (e ∷ es) = ExprTrees.Argument (expr_tree e) (argument_trees es)

abbrev pub member_trees : List MemberDecl → MemberTrees
member_trees [] = MemberTrees.NoMembers
member_trees (MemberDecl' f s r names ∷ ms) = MemberTrees.MemberLine (spec_node_tree s f) (obj_row names) (member_trees ms)
