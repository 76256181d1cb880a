-- What stands in a block, where the program keeps it in a vector.
use Rattle.std.proofs.Common.{◌≡◌, refl, ap, ◌∙◌}
use Rattle.std.specs.Prelude.{Vec}
use Rattle.std.specs.declared.alloc.Global.{Global}
use Rattle.ob_tree.specs.declared.programs.BlockItem.{BlockItem}
use Rattle.ob_tree.specs.declared.programs.BlockItem.TheBlock as block
use Rattle.ob_tree.specs.declared.programs.BlockItem.TheBlock.{Row_of-BlockItem, end_of-BlockItem, more_of-BlockItem, items-the_row-BlockItem, items_hidden-the_row-BlockItem-0}
use Rattle.ob_tree.specs.declared.programs.Stmt.{Stmt}
use Rattle.ob_tree.specs.declared.programs.StmtNode as node
use Rattle.ob_tree.specs.Programs.{StmtTree}
use Rattle.ob_tree.specs.ProgramView.{block_row, in_front, stmt_node_tree, stmt_tree}
use Rattle.ob_statements.specs.BlockTrees.{block_trees}

row_trees : (n : _) (row : Row_of-BlockItem n) → block_row row ≡ block_trees (items-the_row-BlockItem n row)
row_trees n end_of-BlockItem = refl
row_trees n (more_of-BlockItem i is) = ap (in_front i) (row_trees _ is)

pub block_tree : (s : Stmt) (is : Vec BlockItem Global) → s.node ≡ node.Block is → stmt_tree s ≡ StmtTree.Block s.first s.line (block_trees is.items)
block_tree s is h =
    ap (λ n. stmt_node_tree n s.first s.line) h
    ∙ ap (StmtTree.Block s.first s.line) (row_trees _ (block.hidden-the_row-BlockItem-0 is) ∙ ap block_trees (items_hidden-the_row-BlockItem-0 is))
