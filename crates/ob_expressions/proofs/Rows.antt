-- Trees with lists, where the program keeps them in vectors.
use Rattle.std.proofs.Common.{◌≡◌, ℕ, List, [], ◌∷◌, Option, refl, sym, ap, ◌∙◌}
use Rattle.std.specs.Prelude.{Vec}
use Rattle.std.specs.declared.alloc.Global.{Global}
use Rattle.ob_tree.specs.declared.expressions.ExprNode as from
use Rattle.ob_tree.specs.declared.expressions.ExprNode.TheBlock as block
use Rattle.ob_tree.specs.declared.expressions.ExprNode.TheBlock.{Row_of-Expr, end_of-Expr, more_of-Expr, items-the_row-Expr, items_hidden-the_row-Expr-0, Row_of-MemberDecl, end_of-MemberDecl, more_of-MemberDecl, items-the_row-MemberDecl, items_hidden-the_row-MemberDecl-2, Row_of-ObjDecl, end_of-ObjDecl, more_of-ObjDecl, items-the_row-ObjDecl, items_hidden-the_row-ObjDecl-3, Row_of-Dim, end_of-Dim, more_of-Dim, items-the_row-Dim, items_hidden-the_row-Dim-4, Dim-length-None', Dim-length-Some'}
use Rattle.ob_tree.specs.declared.expressions.Expr.{Expr}
use Rattle.ob_tree.specs.declared.expressions.Spec.{Spec}
use Rattle.ob_tree.specs.declared.expressions.SpecNode as spec
use Rattle.ob_tree.specs.declared.expressions.MemberDecl.{MemberDecl, MemberDecl', out-MemberDecl, is-MemberDecl'}
use Rattle.ob_tree.specs.declared.expressions.ObjDecl.{ObjDecl, out-ObjDecl, is-ObjDecl'}
use Rattle.ob_tree.specs.declared.expressions.Dim.{Dim, Dim'}
use Rattle.ob_tree.specs.declared.expressions.TypeName.{TypeName, out-TypeName, is-TypeName'}
use Rattle.ob_tree.specs.Levels.{mark_of}
use Rattle.ob_tree.specs.Trees.{Mark, ExprTree, ExprTrees, TypeTree, SpecTree, MemberTrees, ObjTree, ObjTrees, DimTrees}
use Rattle.ob_tree.specs.ExpressionView.{marked, expr_tree, node_tree, argument_row, spec_tree, spec_node_tree, type_tree, member_row, obj_row, obj_tree, obj_trees, held_init, dim_row, dim_trees, one_member}
use Rattle.ob_expressions.specs.Lists.{expr_trees, member_trees}

arguments : (n : _) (row : Row_of-Expr n) → argument_row row ≡ expr_trees (items-the_row-Expr n row)
arguments n end_of-Expr = refl
arguments n (more_of-Expr f a l e es) = ap (ExprTrees.Argument (node_tree e f a l)) (arguments _ es)

pub call_tree : (e : Expr) (name : List ℕ) (es : Vec Expr Global) → e.node ≡ from.Call name es →
    expr_tree e ≡ ExprTree.Call (marked e.first e.at e.line) name (expr_trees es.items)
call_tree e name es h =
    ap (λ n. node_tree n e.first e.at e.line) h
    ∙ ap (ExprTree.Call (marked e.first e.at e.line) name) (arguments _ (block.hidden-the_row-Expr-0 es) ∙ ap expr_trees (items_hidden-the_row-Expr-0 es))

dims : (n : _) (row : Row_of-Dim n) → dim_row row ≡ dim_trees (items-the_row-Dim n row)
dims n end_of-Dim = refl
dims n (more_of-Dim (Dim' Dim-length-None') ds) = ap DimTrees.Unsized (dims _ ds)
dims n (more_of-Dim (Dim' (Dim-length-Some' f a l e)) ds) = ap (DimTrees.Sized (node_tree e f a l)) (dims _ ds)

dims_of : (ds : Vec Dim Global) → dim_row (block.hidden-the_row-Dim-4 ds) ≡ dim_trees ds.items
dims_of ds = dims _ (block.hidden-the_row-Dim-4 ds) ∙ ap dim_trees (items_hidden-the_row-Dim-4 ds)

pub type_tree_of : (t : TypeName) → type_tree t ≡ TypeTree.TypeName (spec_tree (out-TypeName t).spec) (out-TypeName t).stars (dim_trees (out-TypeName t).dims.items)
type_tree_of t =
    ap type_tree (is-TypeName' t)
    ∙ ap (TypeTree.TypeName (spec_tree (out-TypeName t).spec) (out-TypeName t).stars) (dims_of (out-TypeName t).dims)

objs : (n : _) (row : Row_of-ObjDecl n) → obj_row row ≡ obj_trees (items-the_row-ObjDecl n row)
objs n end_of-ObjDecl = refl
objs n (more_of-ObjDecl o os) = ap (ObjTrees.Declarator (obj_tree o)) (objs _ os)

objs_of : (os : Vec ObjDecl Global) → obj_row (block.hidden-the_row-ObjDecl-3 os) ≡ obj_trees os.items
objs_of os = objs _ (block.hidden-the_row-ObjDecl-3 os) ∙ ap obj_trees (items_hidden-the_row-ObjDecl-3 os)

pub line_tree : (m : MemberDecl) → one_member m ≡ MemberTrees.MemberLine (spec_tree (out-MemberDecl m).spec) (obj_trees (out-MemberDecl m).names.items) MemberTrees.NoMembers
line_tree m =
    ap one_member (is-MemberDecl' m)
    ∙ ap (λ os. MemberTrees.MemberLine (spec_tree (out-MemberDecl m).spec) os MemberTrees.NoMembers) (objs_of (out-MemberDecl m).names)

pub line_first : (m : MemberDecl) (ms : List MemberDecl) →
    member_trees (m ∷ ms) ≡ MemberTrees.MemberLine (spec_tree (out-MemberDecl m).spec) (obj_trees (out-MemberDecl m).names.items) (member_trees ms)
line_first m ms =
    ap (λ x. member_trees (x ∷ ms)) (is-MemberDecl' m)
    ∙ ap (λ os. MemberTrees.MemberLine (spec_tree (out-MemberDecl m).spec) os (member_trees ms)) (objs_of (out-MemberDecl m).names)

members : (n : _) (row : Row_of-MemberDecl n) → member_row row ≡ member_trees (items-the_row-MemberDecl n row)
members n end_of-MemberDecl = refl
members n (more_of-MemberDecl (MemberDecl' f s r names) ms) = ap (MemberTrees.MemberLine (spec_node_tree s f) (obj_row names)) (members _ ms)

pub struct_tree : (s : Spec) (tag : Option (List ℕ)) (ms : Vec MemberDecl Global) → s.node ≡ spec.Struct tag ms →
    spec_tree s ≡ SpecTree.Struct s.first tag (member_trees ms.items)
struct_tree s tag ms h =
    ap (λ n. spec_node_tree n s.first) h
    ∙ ap (SpecTree.Struct s.first tag) (members _ (block.hidden-the_row-MemberDecl-2 ms) ∙ ap member_trees (items_hidden-the_row-MemberDecl-2 ms))

pub obj_tree_of : (o : ObjDecl) →
    obj_tree o ≡ held_init (out-ObjDecl o).stars (out-ObjDecl o).name (out-ObjDecl o).at (dim_trees (out-ObjDecl o).dims.items) (block.back-ObjDecl-init (out-ObjDecl o).init)
obj_tree_of o =
    ap obj_tree (is-ObjDecl' o)
    ∙ ap (λ ds. held_init (out-ObjDecl o).stars (out-ObjDecl o).name (out-ObjDecl o).at ds (block.back-ObjDecl-init (out-ObjDecl o).init)) (dims_of (out-ObjDecl o).dims)

-- a call at its mark
pub call_tree_at : (m : Mark) (e : Expr) (name : List ℕ) (es : Vec Expr Global) → m ≡ mark_of (expr_tree e) → e.node ≡ from.Call name es →
    expr_tree e ≡ ExprTree.Call m name (expr_trees es.items)
call_tree_at m e name es is h =
    call_tree e name es h
    ∙ ap (λ x. ExprTree.Call x name (expr_trees es.items)) (sym (is ∙ ap mark_of (call_tree e name es h)))
