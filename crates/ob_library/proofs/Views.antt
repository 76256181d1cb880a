-- The views of trees that are built from lists, and of blocks with one item more.
use Rattle.std.proofs.Common.{◌≡◌, ℕ, List, [], ◌∷◌, ◌++◌, Some, None, map, refl, ◌∙◌, ap}
use Rattle.std.specs.Prelude.{Vec}
use Rattle.std.specs.declared.alloc.Global.{Global}
use Rattle.ob_tree.specs.declared.expressions.Expr.{Expr}
use Rattle.ob_tree.specs.declared.expressions.ExprNode as from
use Rattle.ob_tree.specs.declared.expressions.ExprNode.TheBlock as expr
use Rattle.ob_tree.specs.declared.expressions.ExprNode.TheBlock.{Row_of-Expr, end_of-Expr, more_of-Expr, items-the_row-Expr, items_hidden-the_row-Expr-0}
use Rattle.ob_tree.specs.declared.expressions.Spec.{Spec}
use Rattle.ob_tree.specs.declared.expressions.Dim.{Dim, roll-Dim}
use Rattle.ob_tree.specs.declared.expressions.ObjDecl.{roll-ObjDecl}
use Rattle.ob_tree.specs.declared.expressions.TypeName.{TypeName', roll-TypeName, out-roll-TypeName, is-TypeName'}
use Rattle.ob_tree.specs.declared.programs.BlockItem as item
use Rattle.ob_tree.specs.declared.programs.BlockItem.{BlockItem}
use Rattle.ob_tree.specs.declared.programs.BlockItem.TheBlock as block
use Rattle.ob_tree.specs.declared.programs.BlockItem.TheBlock.{Row_of-BlockItem, end_of-BlockItem, more_of-BlockItem, items-the_row-BlockItem, items_hidden-the_row-BlockItem-0}
use Rattle.ob_tree.specs.declared.programs.Local.{Local}
use Rattle.ob_tree.specs.declared.programs.Param.{Param}
use Rattle.ob_tree.specs.declared.programs.Stmt.{Stmt}
use Rattle.ob_tree.specs.declared.programs.StmtNode as node
use Rattle.ob_tree.specs.Trees.{ExprTree, ExprTrees, TypeTree, ObjTree, DimTrees}
use Rattle.ob_tree.specs.Programs.{StmtTree, BlockTrees}
use Rattle.ob_tree.specs.ExpressionView.{marked, expr_tree, node_tree, argument_row, spec_tree, type_tree, obj_tree, dim_trees}
use Rattle.ob_tree.specs.ProgramView.{stmt_tree, stmt_node_tree, block_row, in_front, local_tree, param_tree}
use Rattle.ob_tree.specs.ProgramParts.{add_statement, add_local}
use Rattle.ob_tree.proofs.Views.{dims-of, obj_made, dims_pushed}
use Rattle.ob_library.specs.Lists.{block_trees, argument_trees}

row-arguments : (n : _) (row : Row_of-Expr n) → argument_row row ≡ argument_trees (items-the_row-Expr n row)
row-arguments n end_of-Expr = refl
row-arguments n (more_of-Expr f a l e es) = ap (ExprTrees.Argument (node_tree e f a l)) (row-arguments _ es)

pub call_tree : (f a l : ℕ) (name : List ℕ) (es : Vec Expr Global)
    → node_tree (from.Call name es) f a l ≡ ExprTree.Call (marked f a l) name (argument_trees es.items)
call_tree f a l name es =
    ap (ExprTree.Call (marked f a l) name) (row-arguments _ (expr.hidden-the_row-Expr-0 es) ∙ ap argument_trees (items_hidden-the_row-Expr-0 es))

pub type_made : (s : Spec) (n : ℕ) (ds : Vec Dim Global)
    → type_tree (roll-TypeName (record { spec = s; stars = n; dims = ds })) ≡ TypeTree.TypeName (spec_tree s) n (dim_trees ds.items)
type_made s n ds =
    ap type_tree (is-TypeName' (roll-TypeName (record { spec = s; stars = n; dims = ds })))
    ∙ ap (λ r. type_tree (TypeName' r.spec.first r.spec.node r.stars (expr.shape-the_row-Dim-4 r.dims) (expr.hidden-the_row-Dim-4 r.dims))) (out-roll-TypeName (record { spec = s; stars = n; dims = ds }))
    ∙ ap (TypeTree.TypeName (spec_tree s) n) (dims-of ds)

row-items : (n : _) (row : Row_of-BlockItem n) → block_row row ≡ block_trees (items-the_row-BlockItem n row)
row-items n end_of-BlockItem = refl
row-items n (more_of-BlockItem i is) = ap (in_front i) (row-items _ is)

pub block_tree : (f l : ℕ) (is : Vec BlockItem Global) → stmt_node_tree (node.Block is) f l ≡ StmtTree.Block f l (block_trees is.items)
block_tree f l is =
    ap (StmtTree.Block f l) (row-items _ (block.hidden-the_row-BlockItem-0 is) ∙ ap block_trees (items_hidden-the_row-BlockItem-0 is))

pub statements_pushed : (is : List BlockItem) (s : Stmt) → block_trees (is ++ item.Stmt s ∷ []) ≡ add_statement (block_trees is) (stmt_tree s)
statements_pushed [] s = refl
statements_pushed (item.Local l ∷ is) s = ap (BlockTrees.Declaration (local_tree l)) (statements_pushed is s)
statements_pushed (item.Stmt' f l x ∷ is) s = ap (BlockTrees.Statement (stmt_node_tree x f l)) (statements_pushed is s)

pub locals_pushed : (is : List BlockItem) (l : Local) → block_trees (is ++ item.Local l ∷ []) ≡ add_local (block_trees is) (local_tree l)
locals_pushed [] l = refl
locals_pushed (item.Local x ∷ is) l = ap (BlockTrees.Declaration (local_tree x)) (locals_pushed is l)
locals_pushed (item.Stmt' f n x ∷ is) l = ap (BlockTrees.Statement (stmt_node_tree x f n)) (locals_pushed is l)

pub declarator_made : (n : ℕ) (name : List ℕ) (a : ℕ) (ds : Vec Dim Global)
    → obj_tree (roll-ObjDecl (record { stars = n; name = name; at = a; dims = ds; init = None })) ≡ ObjTree.Bare n name a (dim_trees ds.items)
declarator_made n name a ds = obj_made n name a ds

pub bracket_made : (e : Expr) → dim_trees (roll-Dim (record { length = Some e }) ∷ []) ≡ DimTrees.Sized (expr_tree e) DimTrees.NoDims
bracket_made e = dims_pushed [] e

pub params_pushed : (ps : List Param) (p : Param) → map param_tree (ps ++ p ∷ []) ≡ map param_tree ps ++ param_tree p ∷ []
params_pushed [] p = refl
params_pushed (x ∷ ps) p = ap (λ qs. param_tree x ∷ qs) (params_pushed ps p)
