-- The views of declarators that are built from lists, and of lists of brackets and declarators with one more.
use Rattle.std.proofs.Common.{◌≡◌, ℕ, List, [], ◌∷◌, ◌++◌, Some, None, refl, ◌∙◌, ap}
use Rattle.std.specs.Prelude.{Vec}
use Rattle.std.specs.declared.alloc.Global.{Global}
use Rattle.ob_tree.specs.declared.expressions.Expr.{Expr}
use Rattle.ob_tree.specs.declared.expressions.ExprNode.TheBlock as block
use Rattle.ob_tree.specs.declared.expressions.ExprNode.TheBlock.{Row_of-Dim, end_of-Dim, more_of-Dim, items-the_row-Dim, items_hidden-the_row-Dim-4, Dim-length-None', Dim-length-Some'}
use Rattle.ob_tree.specs.declared.expressions.ObjDecl.{ObjDecl, roll-ObjDecl, out-roll-ObjDecl, is-ObjDecl'}
use Rattle.ob_tree.specs.declared.expressions.Dim.{Dim, Dim', roll-Dim, out-roll-Dim, is-Dim'}
use Rattle.ob_tree.specs.Trees.{ObjTree, ObjTrees, DimTrees}
use Rattle.ob_tree.specs.ExpressionView.{expr_tree, node_tree, obj_tree, obj_trees, held_init, dim_row, dim_trees}
use Rattle.ob_tree.specs.ExprStates.{add_dim, add_obj}

row-dims : (n : _) (row : Row_of-Dim n) → dim_row row ≡ dim_trees (items-the_row-Dim n row)
row-dims n end_of-Dim = refl
row-dims n (more_of-Dim (Dim' Dim-length-None') ds) = ap DimTrees.Unsized (row-dims _ ds)
row-dims n (more_of-Dim (Dim' (Dim-length-Some' f a l e)) ds) = ap (DimTrees.Sized (node_tree e f a l)) (row-dims _ ds)

pub dims-of : (ds : Vec Dim Global) → dim_row (block.hidden-the_row-Dim-4 ds) ≡ dim_trees ds.items
dims-of ds = row-dims _ (block.hidden-the_row-Dim-4 ds) ∙ ap dim_trees (items_hidden-the_row-Dim-4 ds)

pub obj_made : (n : ℕ) (name : List ℕ) (a : ℕ) (ds : Vec Dim Global)
    → obj_tree (roll-ObjDecl (record { stars = n; name = name; at = a; dims = ds; init = None })) ≡ ObjTree.Bare n name a (dim_trees ds.items)
obj_made n name a ds =
    let o = roll-ObjDecl (record { stars = n; name = name; at = a; dims = ds; init = None }) in
    ap obj_tree (is-ObjDecl' o)
    ∙ ap (λ r. held_init r.stars r.name r.at (dim_row (block.hidden-the_row-Dim-4 r.dims)) (block.back-ObjDecl-init r.init)) (out-roll-ObjDecl (record { stars = n; name = name; at = a; dims = ds; init = None }))
    ∙ ap (ObjTree.Bare n name a) (dims-of ds)

-- one more
one-dim : (e : Expr) → roll-Dim (record { length = Some e }) ≡ Dim' (Dim-length-Some' e.first e.at e.line e.node)
one-dim e = is-Dim' (roll-Dim (record { length = Some e })) ∙ ap (λ r. Dim' (block.back-Dim-length r.length)) (out-roll-Dim (record { length = Some e }))

pub dims_pushed : (ds : List Dim) (e : Expr) → dim_trees (ds ++ roll-Dim (record { length = Some e }) ∷ []) ≡ add_dim (dim_trees ds) (expr_tree e)
dims_pushed [] e = ap (λ d. dim_trees (d ∷ [])) (one-dim e)
dims_pushed (Dim' Dim-length-None' ∷ ds) e = ap DimTrees.Unsized (dims_pushed ds e)
dims_pushed (Dim' (Dim-length-Some' f a l x) ∷ ds) e = ap (DimTrees.Sized (node_tree x f a l)) (dims_pushed ds e)

pub objs_pushed : (os : List ObjDecl) (o : ObjDecl) → obj_trees (os ++ o ∷ []) ≡ add_obj (obj_trees os) (obj_tree o)
objs_pushed [] o = refl
objs_pushed (x ∷ os) o = ap (ObjTrees.Declarator (obj_tree x)) (objs_pushed os o)
