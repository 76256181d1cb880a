-- What the lists of trees count, where the program keeps them in vectors.
use Rattle.std.proofs.Common.{◌≡◌, ℕ, ◌+◌, List, Option, Some, None, Bool, refl, ap, ◌∙◌, arith}
use Rattle.std.specs.Prelude.{Vec}
use Rattle.std.specs.declared.alloc.Global.{Global}
use Rattle.std.specs.List.{sum_by}
use Rattle.ob_tree.specs.declared.expressions.ExprNode as from
use Rattle.ob_tree.specs.declared.expressions.ExprNode.TheBlock as block
use Rattle.ob_tree.specs.declared.expressions.ExprNode.TheBlock.{Row_of-Expr, end_of-Expr, more_of-Expr, items-the_row-Expr, items_hidden-the_row-Expr-0, Row_of-Init, end_of-Init, more_of-Init, items-the_row-Init, items_hidden-the_row-Init-1, Row_of-MemberDecl, end_of-MemberDecl, more_of-MemberDecl, items-the_row-MemberDecl, items_hidden-the_row-MemberDecl-2, Row_of-ObjDecl, end_of-ObjDecl, more_of-ObjDecl, items-the_row-ObjDecl, items_hidden-the_row-ObjDecl-3, Row_of-Dim, end_of-Dim, more_of-Dim, items-the_row-Dim, items_hidden-the_row-Dim-4, Dim-length-None', Dim-length-Some'}
use Rattle.ob_tree.specs.declared.expressions.Expr.{Expr}
use Rattle.ob_tree.specs.declared.expressions.Init as init
use Rattle.ob_tree.specs.declared.expressions.Init.{Init}
use Rattle.ob_tree.specs.declared.expressions.Spec.{Spec}
use Rattle.ob_tree.specs.declared.expressions.SpecNode as spec
use Rattle.ob_tree.specs.declared.expressions.MemberDecl.{MemberDecl, MemberDecl', out-MemberDecl, is-MemberDecl'}
use Rattle.ob_tree.specs.declared.expressions.ObjDecl.{ObjDecl, out-ObjDecl, is-ObjDecl'}
use Rattle.ob_tree.specs.declared.expressions.Dim.{Dim, Dim'}
use Rattle.ob_tree.specs.declared.expressions.TypeName.{TypeName, out-TypeName, is-TypeName'}
use Rattle.ob_tree.specs.ExpressionView.{expr_tree, node_tree, argument_row, spec_tree, spec_node_tree, type_tree, member_row, obj_row, obj_tree, held_init, dim_row, init_tree, init_row, one_member, one_dim}
use Rattle.ob_typed.specs.Counts.{nodes, nodes_of_arguments, nodes_of_type, nodes_of_spec, nodes_of_members, nodes_of_objects, nodes_of_object, nodes_of_dims, nodes_of_init, nodes_of_inits}
use Rattle.ob_counts.proofs.Sums.{total, summed}

abbrev of_expr : Expr → ℕ
of_expr e = nodes (expr_tree e)

abbrev of_init : Init → ℕ
of_init i = nodes_of_init (init_tree i)

abbrev pub of_object : ObjDecl → ℕ
of_object o = nodes_of_object (obj_tree o)

abbrev pub of_dim : Dim → ℕ
of_dim d = nodes_of_dims (one_dim d)

abbrev of_member : MemberDecl → ℕ
of_member m = nodes_of_members (one_member m)

arguments : (n : _) (row : Row_of-Expr n) → nodes_of_arguments (argument_row row) ≡ total of_expr (items-the_row-Expr n row)
arguments n end_of-Expr = refl
arguments n (more_of-Expr f a l e es) = ap (λ k. nodes (node_tree e f a l) + k) (arguments _ es)

pub call_counted : (e : Expr) (name : List ℕ) (es : Vec Expr Global) → e.node ≡ from.Call name es →
    nodes (expr_tree e) ≡ 1 + sum_by (λ x. nodes (expr_tree x)) es.items
call_counted e name es h =
    ap (λ n. nodes (node_tree n e.first e.at e.line)) h
    ∙ ap (λ k. 1 + k) (arguments _ (block.hidden-the_row-Expr-0 es) ∙ summed of_expr _ _ (items_hidden-the_row-Expr-0 es))

inits : (n : _) (row : Row_of-Init n) → nodes_of_inits (init_row row) ≡ total of_init (items-the_row-Init n row)
inits n end_of-Init = refl
inits n (more_of-Init i is) = ap (λ k. of_init i + k) (inits _ is)

pub list_counted : (i : Init) (f : ℕ) (items : Vec Init Global) (comma : Bool) → i ≡ init.List f items comma →
    nodes_of_init (init_tree i) ≡ sum_by (λ x. nodes_of_init (init_tree x)) items.items
list_counted i f items comma h =
    ap of_init h ∙ inits _ (block.hidden-the_row-Init-1 items) ∙ summed of_init _ _ (items_hidden-the_row-Init-1 items)

objs : (n : _) (row : Row_of-ObjDecl n) → nodes_of_objects (obj_row row) ≡ total of_object (items-the_row-ObjDecl n row)
objs n end_of-ObjDecl = refl
objs n (more_of-ObjDecl o os) = ap (λ k. of_object o + k) (objs _ os)

dim_first : (d : Dim) (n : _) (row : Row_of-Dim n) → nodes_of_dims (dim_row (more_of-Dim d row)) ≡ of_dim d + nodes_of_dims (dim_row row)
dim_first (Dim' Dim-length-None') n row = omega arith
dim_first (Dim' (Dim-length-Some' f a l e)) n row = omega arith

dim_total : (n : _) (row : Row_of-Dim n) → nodes_of_dims (dim_row row) ≡ total of_dim (items-the_row-Dim n row)
dim_total n end_of-Dim = refl
dim_total n (more_of-Dim d ds) = dim_first d _ ds ∙ ap (λ k. of_dim d + k) (dim_total _ ds)

dims : (ds : Vec Dim Global) → nodes_of_dims (dim_row (block.hidden-the_row-Dim-4 ds)) ≡ sum_by (λ d. nodes_of_dims (one_dim d)) ds.items
dims ds = dim_total _ (block.hidden-the_row-Dim-4 ds) ∙ summed of_dim _ _ (items_hidden-the_row-Dim-4 ds)

member_first : (m : MemberDecl) (n : _) (row : Row_of-MemberDecl n) → nodes_of_members (member_row (more_of-MemberDecl m row)) ≡ of_member m + nodes_of_members (member_row row)
member_first (MemberDecl' f s r names) n row = omega arith

members : (n : _) (row : Row_of-MemberDecl n) → nodes_of_members (member_row row) ≡ total of_member (items-the_row-MemberDecl n row)
members n end_of-MemberDecl = refl
members n (more_of-MemberDecl m ms) = member_first m _ ms ∙ ap (λ k. of_member m + k) (members _ ms)

pub struct_counted : (s : Spec) (tag : Option (List ℕ)) (ms : Vec MemberDecl Global) → s.node ≡ spec.Struct tag ms →
    nodes_of_spec (spec_tree s) ≡ sum_by (λ m. nodes_of_members (one_member m)) ms.items
struct_counted s tag ms h =
    ap (λ n. nodes_of_spec (spec_node_tree n s.first)) h
    ∙ members _ (block.hidden-the_row-MemberDecl-2 ms) ∙ summed of_member _ _ (items_hidden-the_row-MemberDecl-2 ms)

pub type_counted : (t : TypeName) →
    nodes_of_type (type_tree t) ≡ nodes_of_spec (spec_tree (out-TypeName t).spec) + sum_by (λ d. nodes_of_dims (one_dim d)) (out-TypeName t).dims.items
type_counted t =
    ap (λ x. nodes_of_type (type_tree x)) (is-TypeName' t)
    ∙ ap (λ k. nodes_of_spec (spec_tree (out-TypeName t).spec) + k) (dims (out-TypeName t).dims)

pub member_counted : (m : MemberDecl) →
    nodes_of_members (one_member m) ≡ nodes_of_spec (spec_tree (out-MemberDecl m).spec) + sum_by (λ o. nodes_of_object (obj_tree o)) (out-MemberDecl m).names.items
member_counted m =
    let names : nodes_of_objects (obj_row (block.hidden-the_row-ObjDecl-3 (out-MemberDecl m).names)) ≡ sum_by (λ o. nodes_of_object (obj_tree o)) (out-MemberDecl m).names.items =
    objs _ (block.hidden-the_row-ObjDecl-3 (out-MemberDecl m).names) ∙ summed of_object _ _ (items_hidden-the_row-ObjDecl-3 (out-MemberDecl m).names) in
    ap of_member (is-MemberDecl' m) ∙ omega arith

pub bare_counted : (o : ObjDecl) → (out-ObjDecl o).init ≡ None →
    nodes_of_object (obj_tree o) ≡ sum_by (λ d. nodes_of_dims (one_dim d)) (out-ObjDecl o).dims.items
bare_counted o h =
    ap of_object (is-ObjDecl' o)
    ∙ ap (λ i. nodes_of_object (held_init (out-ObjDecl o).stars (out-ObjDecl o).name (out-ObjDecl o).at (dim_row (block.hidden-the_row-Dim-4 (out-ObjDecl o).dims)) (block.back-ObjDecl-init i))) h
    ∙ dims (out-ObjDecl o).dims

pub initial_counted : (o : ObjDecl) (i : Init) → (out-ObjDecl o).init ≡ Some i →
    nodes_of_object (obj_tree o) ≡ sum_by (λ d. nodes_of_dims (one_dim d)) (out-ObjDecl o).dims.items + nodes_of_init (init_tree i)
initial_counted o i h =
    ap of_object (is-ObjDecl' o)
    ∙ ap (λ j. nodes_of_object (held_init (out-ObjDecl o).stars (out-ObjDecl o).name (out-ObjDecl o).at (dim_row (block.hidden-the_row-Dim-4 (out-ObjDecl o).dims)) (block.back-ObjDecl-init j))) h
    ∙ ap (λ k. k + nodes_of_init (init_tree i)) (dims (out-ObjDecl o).dims)
