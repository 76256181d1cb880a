-- Lists of the program as plain data.
use Rattle.std.specs.Prelude.{List, [], ◌∷◌}
use Rattle.ob_tree.specs.declared.expressions.Expr.{Expr}
use Rattle.ob_tree.specs.declared.programs.BlockItem.{BlockItem}
use Rattle.ob_tree.specs.Trees.{ExprTrees}
use Rattle.ob_tree.specs.Programs.{BlockTrees}
use Rattle.ob_tree.specs.ExpressionView.{expr_tree}
use Rattle.ob_tree.specs.ProgramView.{in_front}

abbrev pub block_trees : List BlockItem → BlockTrees
block_trees [] = BlockTrees.NoItems
block_trees (i ∷ is) = in_front i (block_trees is)

abbrev pub argument_trees : List Expr → ExprTrees
argument_trees [] = ExprTrees.NoArguments
argument_trees (e ∷ es) = ExprTrees.Argument (expr_tree e) (argument_trees es)
