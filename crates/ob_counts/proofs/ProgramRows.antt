-- What declarations, parameters and blocks count, where the program keeps their lists in vectors.
use Rattle.std.proofs.Common.{◌≡◌, ℕ, ◌+◌, List, [], ◌∷◌, map, refl, ap, ◌∙◌, arith}
use Rattle.std.specs.Prelude.{Vec}
use Rattle.std.specs.declared.alloc.Global.{Global}
use Rattle.std.specs.List.{sum_by}
use Rattle.ob_tree.specs.declared.expressions.ObjDecl.{ObjDecl}
use Rattle.ob_tree.specs.declared.expressions.Dim.{Dim, Dim'}
use Rattle.ob_tree.specs.declared.expressions.ExprNode.TheBlock.{Dim-length-None', Dim-length-Some'}
use Rattle.ob_tree.specs.declared.programs.Param.{Param}
use Rattle.ob_tree.specs.declared.programs.BlockItem as item
use Rattle.ob_tree.specs.declared.programs.BlockItem.{BlockItem}
use Rattle.ob_tree.specs.declared.programs.BlockItem.TheBlock as block
use Rattle.ob_tree.specs.declared.programs.BlockItem.TheBlock.{Row_of-BlockItem, end_of-BlockItem, more_of-BlockItem, items-the_row-BlockItem, items_hidden-the_row-BlockItem-0}
use Rattle.ob_tree.specs.declared.programs.Stmt.{Stmt}
use Rattle.ob_tree.specs.declared.programs.StmtNode as node
use Rattle.ob_tree.specs.ExpressionView.{obj_tree, obj_trees, dim_trees, one_dim}
use Rattle.ob_tree.specs.ProgramView.{stmt_tree, stmt_node_tree, block_row, one_item, param_tree}
use Rattle.ob_typed.specs.Counts.{nodes_of_dims, nodes_of_object, nodes_of_objects, nodes_of_stmt, nodes_of_block, nodes_of_each}
use Rattle.ob_counts.proofs.Sums.{total, summed}
use Rattle.ob_counts.proofs.Rows.{of_object, of_dim}

abbrev of_param : Param → ℕ
of_param p = nodes_of_each (param_tree p ∷ [])

abbrev of_item : BlockItem → ℕ
of_item i = nodes_of_block (one_item i)

object_total : (xs : List ObjDecl) → nodes_of_objects (obj_trees xs) ≡ total of_object xs
object_total [] = refl
object_total (o ∷ os) = ap (λ k. of_object o + k) (object_total os)

pub objects_counted : (xs : List ObjDecl) → nodes_of_objects (obj_trees xs) ≡ sum_by (λ o. nodes_of_object (obj_tree o)) xs
objects_counted xs = object_total xs ∙ summed of_object xs xs refl

dim_total : (xs : List Dim) → nodes_of_dims (dim_trees xs) ≡ total of_dim xs
dim_total [] = refl
dim_total (Dim' Dim-length-None' ∷ ds) = let e = dim_total ds in omega arith
dim_total (Dim' (Dim-length-Some' f a l e) ∷ ds) = let h = dim_total ds in omega arith

pub dims_counted : (xs : List Dim) → nodes_of_dims (dim_trees xs) ≡ sum_by (λ d. nodes_of_dims (one_dim d)) xs
dims_counted xs = dim_total xs ∙ summed of_dim xs xs refl

each_total : (ps : List Param) → nodes_of_each (map param_tree ps) ≡ total of_param ps
each_total [] = refl
each_total (p ∷ ps) = let h = each_total ps in omega arith

pub each_counted : (ps : List Param) → nodes_of_each (map param_tree ps) ≡ sum_by (λ p. nodes_of_each (param_tree p ∷ [])) ps
each_counted ps = each_total ps ∙ summed of_param ps ps refl

item_first : (i : BlockItem) (n : _) (row : Row_of-BlockItem n) → nodes_of_block (block_row (more_of-BlockItem i row)) ≡ of_item i + nodes_of_block (block_row row)
item_first (item.Local l) n row = omega arith
item_first (item.Stmt' f l s) n row = omega arith

items : (n : _) (row : Row_of-BlockItem n) → nodes_of_block (block_row row) ≡ total of_item (items-the_row-BlockItem n row)
items n end_of-BlockItem = refl
items n (more_of-BlockItem i is) = item_first i _ is ∙ ap (λ k. of_item i + k) (items _ is)

pub block_counted : (s : Stmt) (is : Vec BlockItem Global) → s.node ≡ node.Block is →
    nodes_of_stmt (stmt_tree s) ≡ sum_by (λ i. nodes_of_block (one_item i)) is.items
block_counted s is h =
    ap (λ n. nodes_of_stmt (stmt_node_tree n s.first s.line)) h
    ∙ items _ (block.hidden-the_row-BlockItem-0 is) ∙ summed of_item _ _ (items_hidden-the_row-BlockItem-0 is)
