-- Whether a name is called, where the program keeps the lists of a tree in vectors.
use Rattle.std.proofs.Common.{◌≡◌, ℕ, List, [], ◌∷◌, Bool, false, ◌||◌, map, Option, Some, None, refl, sym, ap, ◌∙◌}
use Rattle.std.specs.Prelude.{Vec}
use Rattle.std.specs.declared.alloc.Global.{Global}
use Rattle.std.specs.List.{list_any}
use Rattle.std.specs.Str.{bytes_eq}
use Rattle.std.proofs.Math.Bool.{or_assoc}
use Rattle.ob_tree.specs.declared.expressions.ExprNode as from
use Rattle.ob_tree.specs.declared.expressions.ExprNode.TheBlock as block
use Rattle.ob_tree.specs.declared.expressions.ExprNode.TheBlock.{Row_of-Expr, end_of-Expr, more_of-Expr, items-the_row-Expr, items_hidden-the_row-Expr-0, Row_of-Init, end_of-Init, more_of-Init, items-the_row-Init, items_hidden-the_row-Init-1, Row_of-MemberDecl, end_of-MemberDecl, more_of-MemberDecl, items-the_row-MemberDecl, items_hidden-the_row-MemberDecl-2, Row_of-ObjDecl, end_of-ObjDecl, more_of-ObjDecl, items-the_row-ObjDecl, items_hidden-the_row-ObjDecl-3, Row_of-Dim, end_of-Dim, more_of-Dim, items-the_row-Dim, items_hidden-the_row-Dim-4, ObjDecl-init-None', ObjDecl-init-Some', Dim-length-None', Dim-length-Some'}
use Rattle.ob_tree.specs.declared.expressions.Expr.{Expr}
use Rattle.ob_tree.specs.declared.expressions.Init as init
use Rattle.ob_tree.specs.declared.expressions.Init.{Init}
use Rattle.ob_tree.specs.declared.expressions.Spec.{Spec}
use Rattle.ob_tree.specs.declared.expressions.SpecNode as spec
use Rattle.ob_tree.specs.declared.expressions.MemberDecl.{MemberDecl, MemberDecl', out-MemberDecl, is-MemberDecl'}
use Rattle.ob_tree.specs.declared.expressions.ObjDecl.{ObjDecl, out-ObjDecl, is-ObjDecl'}
use Rattle.ob_tree.specs.declared.expressions.Dim.{Dim, Dim'}
use Rattle.ob_tree.specs.declared.expressions.TypeName.{TypeName, out-TypeName, is-TypeName'}
use Rattle.ob_tree.specs.declared.programs.BlockItem as item
use Rattle.ob_tree.specs.declared.programs.BlockItem.{BlockItem}
use Rattle.ob_tree.specs.declared.programs.BlockItem.TheBlock as statements
use Rattle.ob_tree.specs.declared.programs.BlockItem.TheBlock.{Row_of-BlockItem, end_of-BlockItem, more_of-BlockItem, items-the_row-BlockItem, items_hidden-the_row-BlockItem-0}
use Rattle.ob_tree.specs.declared.programs.Stmt.{Stmt}
use Rattle.ob_tree.specs.declared.programs.StmtNode as node
use Rattle.ob_tree.specs.ExpressionView.{expr_tree, node_tree, argument_row, spec_tree, spec_node_tree, type_tree, member_row, obj_row, obj_tree, obj_trees, held_init, dim_row, dim_trees, init_tree, init_row, one_member, one_dim}
use Rattle.ob_tree.specs.ProgramView.{stmt_tree, stmt_node_tree, block_row, one_item, local_tree}
use Rattle.ob_prelude.specs.Calls.{calls, arguments_call, type_calls, spec_calls, members_call, objs_call, obj_calls, dims_call, init_calls, inits_call, local_calls, stmt_calls, block_calls}

arguments : (c : List ℕ) (n : _) (row : Row_of-Expr n) → arguments_call c (argument_row row) ≡ list_any (λ e. calls c (expr_tree e)) (items-the_row-Expr n row)
arguments c n end_of-Expr = refl
arguments c n (more_of-Expr f a l e es) = ap (λ b. calls c (node_tree e f a l) || b) (arguments c _ es)

pub call-called : (c : List ℕ) (e : Expr) (name : List ℕ) (es : Vec Expr Global) → e.node ≡ from.Call name es →
    calls c (expr_tree e) ≡ (bytes_eq name c || list_any (λ x. calls c (expr_tree x)) es.items)
call-called c e name es h =
    ap (λ n. calls c (node_tree n e.first e.at e.line)) h
    ∙ ap (λ b. bytes_eq name c || b)
    (arguments c _ (block.hidden-the_row-Expr-0 es) ∙ ap (list_any (λ x. calls c (expr_tree x))) (items_hidden-the_row-Expr-0 es))

inits : (c : List ℕ) (n : _) (row : Row_of-Init n) → inits_call c (init_row row) ≡ list_any (λ i. init_calls c (init_tree i)) (items-the_row-Init n row)
inits c n end_of-Init = refl
inits c n (more_of-Init i is) = ap (λ b. init_calls c (init_tree i) || b) (inits c _ is)

pub list-called : (c : List ℕ) (i : Init) (first : ℕ) (items : Vec Init Global) (comma : Bool) → i ≡ init.List first items comma →
    init_calls c (init_tree i) ≡ list_any (λ x. init_calls c (init_tree x)) items.items
list-called c i first items comma h =
    ap (λ x. init_calls c (init_tree x)) h
    ∙ (inits c _ (block.hidden-the_row-Init-1 items) ∙ ap (list_any (λ x. init_calls c (init_tree x))) (items_hidden-the_row-Init-1 items))

objs : (c : List ℕ) (n : _) (row : Row_of-ObjDecl n) → objs_call c (obj_row row) ≡ list_any (λ o. obj_calls c (obj_tree o)) (items-the_row-ObjDecl n row)
objs c n end_of-ObjDecl = refl
objs c n (more_of-ObjDecl o os) = ap (λ b. obj_calls c (obj_tree o) || b) (objs c _ os)

dim-first : (c : List ℕ) (d : Dim) (n : _) (row : Row_of-Dim n) → dims_call c (dim_row (more_of-Dim d row)) ≡ (dims_call c (one_dim d) || dims_call c (dim_row row))
dim-first c (Dim' Dim-length-None') n row = refl
dim-first c (Dim' (Dim-length-Some' f a l e)) n row = sym (or_assoc (calls c (node_tree e f a l)) false (dims_call c (dim_row row)))

dims : (c : List ℕ) (n : _) (row : Row_of-Dim n) → dims_call c (dim_row row) ≡ list_any (λ d. dims_call c (one_dim d)) (items-the_row-Dim n row)
dims c n end_of-Dim = refl
dims c n (more_of-Dim d ds) = dim-first c d _ ds ∙ ap (λ b. dims_call c (one_dim d) || b) (dims c _ ds)

member-first : (c : List ℕ) (m : MemberDecl) (n : _) (row : Row_of-MemberDecl n) → members_call c (member_row (more_of-MemberDecl m row)) ≡ (members_call c (one_member m) || members_call c (member_row row))
member-first c (MemberDecl' f s r names) n row =
    sym (or_assoc (spec_calls c (spec_node_tree s f) || objs_call c (obj_row names)) false (members_call c (member_row row)))

members : (c : List ℕ) (n : _) (row : Row_of-MemberDecl n) → members_call c (member_row row) ≡ list_any (λ m. members_call c (one_member m)) (items-the_row-MemberDecl n row)
members c n end_of-MemberDecl = refl
members c n (more_of-MemberDecl m ms) = member-first c m _ ms ∙ ap (λ b. members_call c (one_member m) || b) (members c _ ms)

pub struct-called : (c : List ℕ) (s : Spec) (tag : Option (List ℕ)) (ms : Vec MemberDecl Global) → s.node ≡ spec.Struct tag ms →
    spec_calls c (spec_tree s) ≡ list_any (λ m. members_call c (one_member m)) ms.items
struct-called c s tag ms h =
    ap (λ n. spec_calls c (spec_node_tree n s.first)) h
    ∙ (members c _ (block.hidden-the_row-MemberDecl-2 ms) ∙ ap (list_any (λ m. members_call c (one_member m))) (items_hidden-the_row-MemberDecl-2 ms))

pub type-called : (c : List ℕ) (t : TypeName) →
    type_calls c (type_tree t) ≡ (spec_calls c (spec_tree (out-TypeName t).spec) || list_any (λ d. dims_call c (one_dim d)) (out-TypeName t).dims.items)
type-called c t =
    ap (λ x. type_calls c (type_tree x)) (is-TypeName' t)
    ∙ ap (λ b. spec_calls c (spec_tree (out-TypeName t).spec) || b)
    (dims c _ (block.hidden-the_row-Dim-4 (out-TypeName t).dims) ∙ ap (list_any (λ d. dims_call c (one_dim d))) (items_hidden-the_row-Dim-4 (out-TypeName t).dims))

or-false : (b : Bool) → (b || false) ≡ b
or-false false = refl
or-false Bool.true = refl

pub member-called : (c : List ℕ) (m : MemberDecl) →
    members_call c (one_member m) ≡ (spec_calls c (spec_tree (out-MemberDecl m).spec) || list_any (λ o. obj_calls c (obj_tree o)) (out-MemberDecl m).names.items)
member-called c m =
    ap (λ x. members_call c (one_member x)) (is-MemberDecl' m)
    ∙ or-false (spec_calls c (spec_tree (out-MemberDecl m).spec) || objs_call c (obj_row (block.hidden-the_row-ObjDecl-3 (out-MemberDecl m).names)))
    ∙ ap (λ b. spec_calls c (spec_tree (out-MemberDecl m).spec) || b)
    (objs c _ (block.hidden-the_row-ObjDecl-3 (out-MemberDecl m).names) ∙ ap (list_any (λ o. obj_calls c (obj_tree o))) (items_hidden-the_row-ObjDecl-3 (out-MemberDecl m).names))

pub bare-called : (c : List ℕ) (o : ObjDecl) → (out-ObjDecl o).init ≡ None →
    obj_calls c (obj_tree o) ≡ list_any (λ d. dims_call c (one_dim d)) (out-ObjDecl o).dims.items
bare-called c o h =
    ap (λ x. obj_calls c (obj_tree x)) (is-ObjDecl' o)
    ∙ ap (λ i. obj_calls c (held_init (out-ObjDecl o).stars (out-ObjDecl o).name (out-ObjDecl o).at (dim_row (block.hidden-the_row-Dim-4 (out-ObjDecl o).dims)) (block.back-ObjDecl-init i))) h
    ∙ (dims c _ (block.hidden-the_row-Dim-4 (out-ObjDecl o).dims) ∙ ap (list_any (λ d. dims_call c (one_dim d))) (items_hidden-the_row-Dim-4 (out-ObjDecl o).dims))

pub initial-called : (c : List ℕ) (o : ObjDecl) (i : Init) → (out-ObjDecl o).init ≡ Some i →
    obj_calls c (obj_tree o) ≡ (list_any (λ d. dims_call c (one_dim d)) (out-ObjDecl o).dims.items || init_calls c (init_tree i))
initial-called c o i h =
    ap (λ x. obj_calls c (obj_tree x)) (is-ObjDecl' o)
    ∙ ap (λ j. obj_calls c (held_init (out-ObjDecl o).stars (out-ObjDecl o).name (out-ObjDecl o).at (dim_row (block.hidden-the_row-Dim-4 (out-ObjDecl o).dims)) (block.back-ObjDecl-init j))) h
    ∙ ap (λ b. b || init_calls c (init_tree i))
    (dims c _ (block.hidden-the_row-Dim-4 (out-ObjDecl o).dims) ∙ ap (list_any (λ d. dims_call c (one_dim d))) (items_hidden-the_row-Dim-4 (out-ObjDecl o).dims))

item-first : (c : List ℕ) (i : BlockItem) (n : _) (row : Row_of-BlockItem n) → block_calls c (block_row (more_of-BlockItem i row)) ≡ (block_calls c (one_item i) || block_calls c (block_row row))
item-first c (item.Local l) n row = sym (or_assoc (local_calls c (local_tree l)) false (block_calls c (block_row row)))
item-first c (item.Stmt' f l s) n row = sym (or_assoc (stmt_calls c (stmt_node_tree s f l)) false (block_calls c (block_row row)))

items : (c : List ℕ) (n : _) (row : Row_of-BlockItem n) → block_calls c (block_row row) ≡ list_any (λ i. block_calls c (one_item i)) (items-the_row-BlockItem n row)
items c n end_of-BlockItem = refl
items c n (more_of-BlockItem i is) = item-first c i _ is ∙ ap (λ b. block_calls c (one_item i) || b) (items c _ is)

pub block-called : (c : List ℕ) (s : Stmt) (is : Vec BlockItem Global) → s.node ≡ node.Block is →
    stmt_calls c (stmt_tree s) ≡ list_any (λ i. block_calls c (one_item i)) is.items
block-called c s is h =
    ap (λ n. stmt_calls c (stmt_node_tree n s.first s.line)) h
    ∙ (items c _ (statements.hidden-the_row-BlockItem-0 is) ∙ ap (list_any (λ i. block_calls c (one_item i))) (items_hidden-the_row-BlockItem-0 is))

-- lists that are views of vectors
pub obj_trees_called : (c : List ℕ) (xs : List ObjDecl) → objs_call c (obj_trees xs) ≡ list_any (λ o. obj_calls c (obj_tree o)) xs
obj_trees_called c [] = refl
obj_trees_called c (o ∷ os) = ap (λ b. obj_calls c (obj_tree o) || b) (obj_trees_called c os)

pub dim_trees_called : (c : List ℕ) (xs : List Dim) → dims_call c (dim_trees xs) ≡ list_any (λ d. dims_call c (one_dim d)) xs
dim_trees_called c [] = refl
dim_trees_called c (Dim' Dim-length-None' ∷ ds) = dim_trees_called c ds
dim_trees_called c (Dim' (Dim-length-Some' f a l e) ∷ ds) =
    ap (λ b. calls c (node_tree e f a l) || b) (dim_trees_called c ds)
    ∙ sym (or_assoc (calls c (node_tree e f a l)) false (list_any (λ d. dims_call c (one_dim d)) ds))

pub any_map : {A B : Type 0} (p : B → Bool) (g : A → B) (xs : List A) → list_any p (map g xs) ≡ list_any (λ x. p (g x)) xs
any_map p g [] = refl
any_map p g (x ∷ xs) = ap (λ b. p (g x) || b) (any_map p g xs)

pub ruleset listed = (obj_trees_called, dim_trees_called, any_map)
