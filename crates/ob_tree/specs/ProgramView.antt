-- What the programs of the language are without their boxes and vectors.
use Rattle.std.specs.Prelude.{ℕ, Bool, Option, Some, None, map}
use Rattle.ob_tree.specs.declared.expressions.Expr.{Expr}
use Rattle.ob_tree.specs.declared.programs.BlockItem as block
use Rattle.ob_tree.specs.declared.programs.BlockItem.{BlockItem}
use Rattle.ob_tree.specs.declared.programs.Stmt.{Stmt}
use Rattle.ob_tree.specs.declared.programs.StmtNode as node
use Rattle.ob_tree.specs.declared.programs.StmtNode.{StmtNode, Row_of-BlockItem, end_of-BlockItem, more_of-BlockItem, Held-StmtNode-If-2, None', Some'}
use Rattle.ob_tree.specs.declared.programs.Local.{Local}
use Rattle.ob_tree.specs.declared.programs.ForStart.{ForStart}
use Rattle.ob_tree.specs.declared.programs.ForStart.TheVariants as start
use Rattle.ob_tree.specs.declared.programs.Param.{Param}
use Rattle.ob_tree.specs.declared.programs.Params.{Params}
use Rattle.ob_tree.specs.declared.programs.Params.TheVariants as params
use Rattle.ob_tree.specs.declared.programs.FileDecl.{FileDecl}
use Rattle.ob_tree.specs.declared.programs.FileDecl.TheVariants as file
use Rattle.ob_tree.specs.declared.programs.ItemNode.{ItemNode}
use Rattle.ob_tree.specs.declared.programs.ItemNode.TheVariants as item
use Rattle.ob_tree.specs.declared.programs.Item.{Item}
use Rattle.ob_tree.specs.declared.programs.Program.{Program}
use Rattle.ob_tree.specs.Trees.{ExprTree, SpecTree}
use Rattle.ob_tree.specs.Programs.{LocalTree, StartTree, StmtTree, BlockTrees, ParamTree, ParamsTree, FileTree, ItemTree, ProgramTree}
use Rattle.ob_tree.specs.ExpressionView.{expr_tree, spec_tree, obj_tree, obj_trees, dim_trees}

abbrev pub option_tree : Option Expr → Option ExprTree
option_tree None = None
option_tree (Some e) = Some (expr_tree e)

abbrev pub local_tree : Local → LocalTree
local_tree l = record {
  first = l.first;
  line = l.line;
  fixed = l.fixed;
  spec = spec_tree l.spec;
  names = obj_trees l.names.items;
}

abbrev pub start_tree : ForStart → StartTree
start_tree (start.Expr e) = StartTree.Expr (option_tree e)
start_tree (start.Local l) = StartTree.Local (local_tree l)

abbrev mutual
  pub stmt_node_tree : StmtNode → (first line : ℕ) → StmtTree
  stmt_node_tree (node.Block' r items) f l = StmtTree.Block f l (block_row items)
  stmt_node_tree (node.Expr e) f l = StmtTree.Expr f l (option_tree e)
  stmt_node_tree (node.If' c p f1 l1 s other) f l = held_else f l (expr_tree c) (stmt_node_tree s f1 l1) other
  stmt_node_tree (node.While' c p f1 l1 s) f l = StmtTree.While f l (expr_tree c) (stmt_node_tree s f1 l1)
  stmt_node_tree (node.Do' p f1 l1 s c) f l = StmtTree.Do f l (stmt_node_tree s f1 l1) (expr_tree c)
  stmt_node_tree (node.For' i c n p f1 l1 s) f l =
      StmtTree.For f l (start_tree i) (option_tree c) (option_tree n) (stmt_node_tree s f1 l1)
  stmt_node_tree node.Break f l = StmtTree.Break f l
  stmt_node_tree node.Continue f l = StmtTree.Continue f l
  stmt_node_tree (node.Return e) f l = StmtTree.Return f l (option_tree e)

  pub held_else : (first line : ℕ) → ExprTree → StmtTree → Held-StmtNode-If-2 → StmtTree
  held_else f l c s None' = StmtTree.If f l c s
  held_else f l c s (Some' p f1 l1 other) = StmtTree.IfElse f l c s (stmt_node_tree other f1 l1)

  pub block_row : {n : _} → Row_of-BlockItem n → BlockTrees
  block_row end_of-BlockItem = BlockTrees.NoItems
  block_row (more_of-BlockItem i is) = in_front i (block_row is)

  pub in_front : BlockItem → BlockTrees → BlockTrees
  in_front (block.Local l) is = BlockTrees.Declaration (local_tree l) is
  in_front (block.Stmt' f l s) is = BlockTrees.Statement (stmt_node_tree s f l) is

abbrev pub stmt_tree : Stmt → StmtTree
stmt_tree s = stmt_node_tree s.node s.first s.line

-- what stands in a block, as a list of one
abbrev pub one_item : BlockItem → BlockTrees
one_item i = in_front i BlockTrees.NoItems

abbrev pub param_tree : Param → ParamTree
param_tree p = record {
  first = p.first;
  line = p.line;
  spec = spec_tree p.spec;
  stars = p.stars;
  name = p.name;
  at = p.at;
  dims = dim_trees p.dims.items;
}

abbrev pub params_tree : Params → ParamsTree
params_tree params.Empty = ParamsTree.Empty
params_tree params.Void = ParamsTree.Void
params_tree (params.List ps) = ParamsTree.Listed (map param_tree ps.items)

abbrev pub file_tree : FileDecl → FileTree
file_tree (file.Function stars name at ps) = FileTree.Function stars name at (params_tree ps)
file_tree (file.Object o) = FileTree.Object (obj_tree o)

abbrev pub item_node_tree : (first line : ℕ) → (fixed : Bool) → SpecTree → ItemNode → ItemTree
item_node_tree f l fixed s (item.Function stars name at ps body) =
    ItemTree.Function f l fixed s stars name at (params_tree ps) (stmt_tree body)
item_node_tree f l fixed s (item.Decls ds) = ItemTree.Decls f l fixed s (map file_tree ds.items)

abbrev pub item_tree : Item → ItemTree
item_tree i = item_node_tree i.first i.line i.fixed (spec_tree i.spec) i.node

abbrev pub program_tree : Program → ProgramTree
program_tree p = map item_tree p.items.items
