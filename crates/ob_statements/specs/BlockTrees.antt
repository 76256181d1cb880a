-- What stands in a block of the program, as the grammar's tree.
use Rattle.std.specs.Prelude.{List, [], ◌∷◌}
use Rattle.ob_tree.specs.declared.programs.BlockItem.{BlockItem}
use Rattle.ob_tree.specs.Programs.{BlockTrees}
use Rattle.ob_tree.specs.ProgramView.{in_front}

abbrev pub block_trees : List BlockItem → BlockTrees
block_trees [] = BlockTrees.NoItems
block_trees (i ∷ is) = in_front i (block_trees is)
