-- The views of trees that are built from lists, and of lists with one item more.
use Rattle.std.proofs.Common.{◌≡◌, ℕ, ◌+◌, max, List, [], ◌∷◌, ◌++◌, Some, None, refl, ◌∙◌, ap}
use Rattle.std.specs.Prelude.{Vec, Option}
use Rattle.std.specs.declared.alloc.Global.{Global}
use Rattle.ob_tree.specs.declared.expressions.Expr.{Expr}
use Rattle.ob_tree.specs.declared.expressions.ExprNode as from
use Rattle.ob_tree.specs.declared.expressions.ExprNode.TheBlock as block
use Rattle.ob_tree.specs.declared.expressions.ExprNode.TheBlock.{Row_of-Expr, end_of-Expr, more_of-Expr, items-the_row-Expr, items_hidden-the_row-Expr-0, Row_of-MemberDecl, end_of-MemberDecl, more_of-MemberDecl, items-the_row-MemberDecl, items_hidden-the_row-MemberDecl-2, Row_of-ObjDecl, end_of-ObjDecl, more_of-ObjDecl, items-the_row-ObjDecl, items_hidden-the_row-ObjDecl-3}
use Rattle.ob_tree.specs.declared.expressions.Spec.{Spec}
use Rattle.ob_tree.specs.declared.expressions.SpecNode as spec
use Rattle.ob_tree.specs.declared.expressions.MemberDecl.{MemberDecl, MemberDecl', roll-MemberDecl, out-roll-MemberDecl, is-MemberDecl'}
use Rattle.ob_tree.specs.declared.expressions.ObjDecl.{ObjDecl}
use Rattle.ob_tree.specs.declared.expressions.Dim.{Dim, roll-Dim}
use Rattle.ob_tree.specs.declared.expressions.TypeName.{TypeName', roll-TypeName, out-roll-TypeName, is-TypeName'}
use Rattle.ob_tree.specs.Trees.{ExprTree, ExprTrees, TypeTree, SpecTree, MemberTrees, ObjTrees}
use Rattle.ob_tree.specs.Paths.{height, height_arguments, height_spec, height_members, height_objs, height_obj, height_dims}
use Rattle.ob_tree.specs.ExpressionView.{marked, expr_tree, node_tree, argument_row, spec_tree, spec_node_tree, type_tree, member_row, obj_row, obj_tree, obj_trees, dim_trees}
use Rattle.ob_tree.specs.ExprStates.{add_argument, add_member}
use Rattle.ob_tree.proofs.Views.{dims-of, dims_pushed, objs_pushed}
use Rattle.ob_exprs.specs.Lists.{argument_trees, member_trees}
use Rattle.ob_exprs.specs.DeepestPaths.{count}
use Rattle.ob_exprs.proofs.Heights.{arguments-height, dims-height, dims-count, objs-height, members-height}

row-arguments : (n : _) (row : Row_of-Expr n) → argument_row row ≡ argument_trees (items-the_row-Expr n row)
row-arguments n end_of-Expr = refl
row-arguments n (more_of-Expr f a l e es) = ap (ExprTrees.Argument (node_tree e f a l)) (row-arguments _ es)

pub call_tree : (f a l : ℕ) (name : List ℕ) (es : Vec Expr Global)
    → node_tree (from.Call name es) f a l ≡ ExprTree.Call (marked f a l) name (argument_trees es.items)
call_tree f a l name es =
    ap (ExprTree.Call (marked f a l) name) (row-arguments _ (block.hidden-the_row-Expr-0 es) ∙ ap argument_trees (items_hidden-the_row-Expr-0 es))

row-objs : (n : _) (row : Row_of-ObjDecl n) → obj_row row ≡ obj_trees (items-the_row-ObjDecl n row)
row-objs n end_of-ObjDecl = refl
row-objs n (more_of-ObjDecl o os) = ap (ObjTrees.Declarator (obj_tree o)) (row-objs _ os)

objs-of : (os : Vec ObjDecl Global) → obj_row (block.hidden-the_row-ObjDecl-3 os) ≡ obj_trees os.items
objs-of os = row-objs _ (block.hidden-the_row-ObjDecl-3 os) ∙ ap obj_trees (items_hidden-the_row-ObjDecl-3 os)

row-members : (n : _) (row : Row_of-MemberDecl n) → member_row row ≡ member_trees (items-the_row-MemberDecl n row)
row-members n end_of-MemberDecl = refl
row-members n (more_of-MemberDecl (MemberDecl' f s r names) ms) = ap (MemberTrees.MemberLine (spec_node_tree s f) (obj_row names)) (row-members _ ms)

pub struct_tree : (f : ℕ) (tag : Option (List ℕ)) (ms : Vec MemberDecl Global)
    → spec_node_tree (spec.Struct tag ms) f ≡ SpecTree.Struct f tag (member_trees ms.items)
struct_tree f tag ms =
    ap (SpecTree.Struct f tag) (row-members _ (block.hidden-the_row-MemberDecl-2 ms) ∙ ap member_trees (items_hidden-the_row-MemberDecl-2 ms))

pub type_made : (s : Spec) (n : ℕ) (ds : Vec Dim Global)
    → type_tree (roll-TypeName (record { spec = s; stars = n; dims = ds })) ≡ TypeTree.TypeName (spec_tree s) n (dim_trees ds.items)
type_made s n ds =
    ap type_tree (is-TypeName' (roll-TypeName (record { spec = s; stars = n; dims = ds })))
    ∙ ap (λ r. type_tree (TypeName' r.spec.first r.spec.node r.stars (block.shape-the_row-Dim-4 r.dims) (block.hidden-the_row-Dim-4 r.dims))) (out-roll-TypeName (record { spec = s; stars = n; dims = ds }))
    ∙ ap (TypeTree.TypeName (spec_tree s) n) (dims-of ds)

-- one item more
pub dims_pushed_height : (ds : List Dim) (e : Expr) → height_dims (dim_trees (ds ++ roll-Dim (record { length = Some e }) ∷ [])) ≡ max (height_dims (dim_trees ds)) (count (dim_trees ds) + (1 + height (expr_tree e)))
dims_pushed_height ds e = ap height_dims (dims_pushed ds e) ∙ dims-height (dim_trees ds) (expr_tree e)

pub dims_pushed_count : (ds : List Dim) (e : Expr) → count (dim_trees (ds ++ roll-Dim (record { length = Some e }) ∷ [])) ≡ count (dim_trees ds) + 1
dims_pushed_count ds e = ap count (dims_pushed ds e) ∙ dims-count (dim_trees ds) (expr_tree e)

pub arguments_pushed : (es : List Expr) (e : Expr) → argument_trees (es ++ e ∷ []) ≡ add_argument (argument_trees es) (expr_tree e)
arguments_pushed [] e = refl
arguments_pushed (x ∷ es) e = ap (ExprTrees.Argument (expr_tree x)) (arguments_pushed es e)

pub arguments_pushed_height : (es : List Expr) (e : Expr) → height_arguments (argument_trees (es ++ e ∷ [])) ≡ max (height_arguments (argument_trees es)) (height (expr_tree e))
arguments_pushed_height es e = ap height_arguments (arguments_pushed es e) ∙ arguments-height (argument_trees es) (expr_tree e)

pub objs_pushed_height : (os : List ObjDecl) (o : ObjDecl) → height_objs (obj_trees (os ++ o ∷ [])) ≡ max (height_objs (obj_trees os)) (height_obj (obj_tree o))
objs_pushed_height os o = ap height_objs (objs_pushed os o) ∙ objs-height (obj_trees os) (obj_tree o)

one-line : (s : Spec) (names : Vec ObjDecl Global)
    → member_trees (roll-MemberDecl (record { spec = s; names = names }) ∷ []) ≡ MemberTrees.MemberLine (spec_tree s) (obj_trees names.items) MemberTrees.NoMembers
one-line s names =
    ap (λ m. member_trees (m ∷ [])) (is-MemberDecl' (roll-MemberDecl (record { spec = s; names = names })))
    ∙ ap (λ r. MemberTrees.MemberLine (spec_node_tree r.spec.node r.spec.first) (obj_row (block.hidden-the_row-ObjDecl-3 r.names)) MemberTrees.NoMembers) (out-roll-MemberDecl (record { spec = s; names = names }))
    ∙ ap (λ os. MemberTrees.MemberLine (spec_tree s) os MemberTrees.NoMembers) (objs-of names)

pub members_pushed : (ms : List MemberDecl) (s : Spec) (names : Vec ObjDecl Global)
    → member_trees (ms ++ roll-MemberDecl (record { spec = s; names = names }) ∷ []) ≡ add_member (member_trees ms) (spec_tree s) (obj_trees names.items)
members_pushed [] s names = one-line s names
members_pushed (MemberDecl' f n r os ∷ ms) s names = ap (MemberTrees.MemberLine (spec_node_tree n f) (obj_row os)) (members_pushed ms s names)

pub members_pushed_height : (ms : List MemberDecl) (s : Spec) (names : Vec ObjDecl Global)
    → height_members (member_trees (ms ++ roll-MemberDecl (record { spec = s; names = names }) ∷ [])) ≡ max (height_members (member_trees ms)) (max (height_spec (spec_tree s)) (height_objs (obj_trees names.items)))
members_pushed_height ms s names = ap height_members (members_pushed ms s names) ∙ members-height (member_trees ms) (spec_tree s) (obj_trees names.items)
