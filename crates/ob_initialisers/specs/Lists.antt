-- A vector of initialisers as the grammar's list.
use Rattle.std.specs.Prelude.{List, [], ◌∷◌}
use Rattle.ob_tree.specs.declared.expressions.Init.{Init}
use Rattle.ob_tree.specs.Trees.{InitTrees}
use Rattle.ob_tree.specs.ExpressionView.{init_tree}

abbrev pub init_trees : List Init → InitTrees
init_trees [] = InitTrees.NoItems
init_trees (i ∷ is) = InitTrees.Item (init_tree i) (init_trees is)
