-- What trees spell, where the program keeps their lists in vectors.
use Rattle.std.proofs.Common.{◌≡◌, ℕ, List, [], ◌∷◌, ◌++◌, Bool, Option, Some, None, refl, sym, ap, ◌∙◌}
use Rattle.std.specs.Prelude.{Vec}
use Rattle.std.specs.declared.alloc.Global.{Global}
use Rattle.std.specs.List.{flat_map}
use Rattle.std.proofs.lemmas.List.{append_assoc}
use Rattle.ob_tree.specs.declared.tokens.TokenKind.{TokenKind}
use Rattle.ob_tree.specs.declared.tokens.TokenKind.TheVariants as kind
use Rattle.ob_tree.specs.declared.tokens.Keyword.TheVariants as word
use Rattle.ob_tree.specs.declared.tokens.Sign.TheVariants as sign
use Rattle.ob_tree.specs.declared.expressions.ExprNode as from
use Rattle.ob_tree.specs.declared.expressions.ExprNode.TheBlock as block
use Rattle.ob_tree.specs.declared.expressions.ExprNode.TheBlock.{Row_of-Expr, end_of-Expr, more_of-Expr, items-the_row-Expr, items_hidden-the_row-Expr-0, Row_of-Init, end_of-Init, more_of-Init, items-the_row-Init, items_hidden-the_row-Init-1, Row_of-MemberDecl, end_of-MemberDecl, more_of-MemberDecl, items-the_row-MemberDecl, items_hidden-the_row-MemberDecl-2, Row_of-ObjDecl, end_of-ObjDecl, more_of-ObjDecl, items-the_row-ObjDecl, items_hidden-the_row-ObjDecl-3, Row_of-Dim, end_of-Dim, more_of-Dim, items-the_row-Dim, items_hidden-the_row-Dim-4, ObjDecl-init-None', ObjDecl-init-Some', Dim-length-None', Dim-length-Some'}
use Rattle.ob_tree.specs.declared.expressions.Expr.{Expr}
use Rattle.ob_tree.specs.declared.expressions.Init as init
use Rattle.ob_tree.specs.declared.expressions.Init.{Init}
use Rattle.ob_tree.specs.declared.expressions.Spec.{Spec}
use Rattle.ob_tree.specs.declared.expressions.SpecNode as spec
use Rattle.ob_tree.specs.declared.expressions.SpecNode.{SpecNode}
use Rattle.ob_tree.specs.declared.expressions.MemberDecl.{MemberDecl, MemberDecl', out-MemberDecl, is-MemberDecl'}
use Rattle.ob_tree.specs.declared.expressions.ObjDecl.{ObjDecl, out-ObjDecl, is-ObjDecl'}
use Rattle.ob_tree.specs.declared.expressions.Dim.{Dim, Dim'}
use Rattle.ob_tree.specs.declared.expressions.TypeName.{TypeName, out-TypeName, is-TypeName'}
use Rattle.ob_tree.specs.Spelling.{spell, spell_arguments, spell_more_arguments, spell_spec, spell_type, spell_members, spell_objs, spell_more_objs, spell_obj, spell_dims, spell_init, spell_inits, spell_more_inits, spell_name, spell_comma, stars, listed, more_listed}
use Rattle.ob_tree.specs.ExpressionView.{expr_tree, node_tree, argument_row, spec_tree, spec_node_tree, type_tree, member_row, obj_row, obj_tree, held_init, dim_row, init_tree, init_row, one_member, one_dim}

abbrev spelled : Expr → List TokenKind
spelled e = spell (expr_tree e)

more-arguments : (n : _) (row : Row_of-Expr n) → spell_more_arguments (argument_row row) ≡ more_listed spelled (items-the_row-Expr n row)
more-arguments n end_of-Expr = refl
more-arguments n (more_of-Expr f a l e es) =
    ap (λ ks. kind.Sign sign.Comma ∷ (spell (node_tree e f a l) ++ ks)) (more-arguments _ es)

arguments : (n : _) (row : Row_of-Expr n) → spell_arguments (argument_row row) ≡ listed spelled (items-the_row-Expr n row)
arguments n end_of-Expr = refl
arguments n (more_of-Expr f a l e es) = ap (λ ks. spell (node_tree e f a l) ++ ks) (more-arguments _ es)

pub call-spelled : (e : Expr) (name : List ℕ) (es : Vec Expr Global) → e.node ≡ from.Call name es →
    spell (expr_tree e) ≡ kind.Name name ∷ (kind.Sign sign.OpenParen ∷ (listed (λ x. spell (expr_tree x)) es.items ++ kind.Sign sign.CloseParen ∷ []))
call-spelled e name es h =
    ap (λ n. spell (node_tree n e.first e.at e.line)) h
    ∙ ap (λ ks. kind.Name name ∷ (kind.Sign sign.OpenParen ∷ (ks ++ kind.Sign sign.CloseParen ∷ [])))
    (arguments _ (block.hidden-the_row-Expr-0 es) ∙ ap (listed spelled) (items_hidden-the_row-Expr-0 es))

more-inits : (n : _) (row : Row_of-Init n) → spell_more_inits (init_row row) ≡ more_listed (λ i. spell_init (init_tree i)) (items-the_row-Init n row)
more-inits n end_of-Init = refl
more-inits n (more_of-Init i is) = ap (λ ks. kind.Sign sign.Comma ∷ (spell_init (init_tree i) ++ ks)) (more-inits _ is)

inits : (n : _) (row : Row_of-Init n) → spell_inits (init_row row) ≡ listed (λ i. spell_init (init_tree i)) (items-the_row-Init n row)
inits n end_of-Init = refl
inits n (more_of-Init i is) = ap (λ ks. spell_init (init_tree i) ++ ks) (more-inits _ is)

pub list-spelled : (i : Init) (first : ℕ) (items : Vec Init Global) (comma : Bool) → i ≡ init.List first items comma →
    spell_init (init_tree i) ≡ kind.Sign sign.OpenBrace ∷ (listed (λ x. spell_init (init_tree x)) items.items ++ (spell_comma comma ++ kind.Sign sign.CloseBrace ∷ []))
list-spelled i first items comma h =
    ap (λ x. spell_init (init_tree x)) h
    ∙ ap (λ ks. kind.Sign sign.OpenBrace ∷ (ks ++ (spell_comma comma ++ kind.Sign sign.CloseBrace ∷ [])))
    (inits _ (block.hidden-the_row-Init-1 items) ∙ ap (listed (λ x. spell_init (init_tree x))) (items_hidden-the_row-Init-1 items))

more-objs : (n : _) (row : Row_of-ObjDecl n) → spell_more_objs (obj_row row) ≡ more_listed (λ o. spell_obj (obj_tree o)) (items-the_row-ObjDecl n row)
more-objs n end_of-ObjDecl = refl
more-objs n (more_of-ObjDecl o os) = ap (λ ks. kind.Sign sign.Comma ∷ (spell_obj (obj_tree o) ++ ks)) (more-objs _ os)

pub objs : (n : _) (row : Row_of-ObjDecl n) → spell_objs (obj_row row) ≡ listed (λ o. spell_obj (obj_tree o)) (items-the_row-ObjDecl n row)
objs n end_of-ObjDecl = refl
objs n (more_of-ObjDecl o os) = ap (λ ks. spell_obj (obj_tree o) ++ ks) (more-objs _ os)

dim-first : (d : Dim) (n : _) (row : Row_of-Dim n) → spell_dims (dim_row (more_of-Dim d row)) ≡ spell_dims (one_dim d) ++ spell_dims (dim_row row)
dim-first (Dim' Dim-length-None') n row = refl
dim-first (Dim' (Dim-length-Some' f a l e)) n row =
    ap (λ ks. kind.Sign sign.OpenBracket ∷ ks) (sym (append_assoc (spell (node_tree e f a l)) (kind.Sign sign.CloseBracket ∷ []) (spell_dims (dim_row row))))

pub dims : (n : _) (row : Row_of-Dim n) → spell_dims (dim_row row) ≡ flat_map (λ d. spell_dims (one_dim d)) (items-the_row-Dim n row)
dims n end_of-Dim = refl
dims n (more_of-Dim d ds) = dim-first d _ ds ∙ ap (λ ks. spell_dims (one_dim d) ++ ks) (dims _ ds)

member-first : (m : MemberDecl) (n : _) (row : Row_of-MemberDecl n) → spell_members (member_row (more_of-MemberDecl m row)) ≡ spell_members (one_member m) ++ spell_members (member_row row)
member-first (MemberDecl' f s r names) n row =
    ap (λ ks. spell_spec (spec_node_tree s f) ++ ks)
    (sym (append_assoc (spell_objs (obj_row names)) (kind.Sign sign.Semi ∷ []) (spell_members (member_row row))))
    ∙ sym (append_assoc (spell_spec (spec_node_tree s f)) (spell_objs (obj_row names) ++ kind.Sign sign.Semi ∷ []) (spell_members (member_row row)))

members : (n : _) (row : Row_of-MemberDecl n) → spell_members (member_row row) ≡ flat_map (λ m. spell_members (one_member m)) (items-the_row-MemberDecl n row)
members n end_of-MemberDecl = refl
members n (more_of-MemberDecl m ms) = member-first m _ ms ∙ ap (λ ks. spell_members (one_member m) ++ ks) (members _ ms)

pub struct-spelled : (s : Spec) (tag : Option (List ℕ)) (ms : Vec MemberDecl Global) → s.node ≡ spec.Struct tag ms →
    spell_spec (spec_tree s) ≡ kind.Word word.Struct ∷ (spell_name tag ++ kind.Sign sign.OpenBrace ∷ (flat_map (λ m. spell_members (one_member m)) ms.items ++ kind.Sign sign.CloseBrace ∷ []))
struct-spelled s tag ms h =
    ap (λ n. spell_spec (spec_node_tree n s.first)) h
    ∙ ap (λ ks. kind.Word word.Struct ∷ (spell_name tag ++ kind.Sign sign.OpenBrace ∷ (ks ++ kind.Sign sign.CloseBrace ∷ [])))
    (members _ (block.hidden-the_row-MemberDecl-2 ms) ∙ ap (flat_map (λ m. spell_members (one_member m))) (items_hidden-the_row-MemberDecl-2 ms))

pub type-spelled : (t : TypeName) →
    spell_type (type_tree t) ≡ spell_spec (spec_tree (out-TypeName t).spec) ++ (stars (out-TypeName t).stars ++ flat_map (λ d. spell_dims (one_dim d)) (out-TypeName t).dims.items)
type-spelled t =
    ap (λ x. spell_type (type_tree x)) (is-TypeName' t)
    ∙ ap (λ ks. spell_spec (spec_tree (out-TypeName t).spec) ++ (stars (out-TypeName t).stars ++ ks))
    (dims _ (block.hidden-the_row-Dim-4 (out-TypeName t).dims) ∙ ap (flat_map (λ d. spell_dims (one_dim d))) (items_hidden-the_row-Dim-4 (out-TypeName t).dims))

pub member-spelled : (m : MemberDecl) →
    spell_members (one_member m) ≡ spell_spec (spec_tree (out-MemberDecl m).spec) ++ (listed (λ o. spell_obj (obj_tree o)) (out-MemberDecl m).names.items ++ kind.Sign sign.Semi ∷ [])
member-spelled m =
    ap (λ x. spell_members (one_member x)) (is-MemberDecl' m)
    ∙ ap (λ ks. spell_spec (spec_tree (out-MemberDecl m).spec) ++ (ks ++ kind.Sign sign.Semi ∷ []))
    (objs _ (block.hidden-the_row-ObjDecl-3 (out-MemberDecl m).names) ∙ ap (listed (λ o. spell_obj (obj_tree o))) (items_hidden-the_row-ObjDecl-3 (out-MemberDecl m).names))

pub bare-spelled : (o : ObjDecl) → (out-ObjDecl o).init ≡ None →
    spell_obj (obj_tree o) ≡ stars (out-ObjDecl o).stars ++ kind.Name (out-ObjDecl o).name ∷ flat_map (λ d. spell_dims (one_dim d)) (out-ObjDecl o).dims.items
bare-spelled o h =
    ap (λ x. spell_obj (obj_tree x)) (is-ObjDecl' o)
    ∙ ap (λ i. spell_obj (held_init (out-ObjDecl o).stars (out-ObjDecl o).name (out-ObjDecl o).at (dim_row (block.hidden-the_row-Dim-4 (out-ObjDecl o).dims)) (block.back-ObjDecl-init i))) h
    ∙ ap (λ ks. stars (out-ObjDecl o).stars ++ kind.Name (out-ObjDecl o).name ∷ ks)
    (dims _ (block.hidden-the_row-Dim-4 (out-ObjDecl o).dims) ∙ ap (flat_map (λ d. spell_dims (one_dim d))) (items_hidden-the_row-Dim-4 (out-ObjDecl o).dims))

pub initial-spelled : (o : ObjDecl) (i : Init) → (out-ObjDecl o).init ≡ Some i →
    spell_obj (obj_tree o) ≡ stars (out-ObjDecl o).stars ++ kind.Name (out-ObjDecl o).name ∷ (flat_map (λ d. spell_dims (one_dim d)) (out-ObjDecl o).dims.items ++ kind.Sign sign.Assign ∷ spell_init (init_tree i))
initial-spelled o i h =
    ap (λ x. spell_obj (obj_tree x)) (is-ObjDecl' o)
    ∙ ap (λ j. spell_obj (held_init (out-ObjDecl o).stars (out-ObjDecl o).name (out-ObjDecl o).at (dim_row (block.hidden-the_row-Dim-4 (out-ObjDecl o).dims)) (block.back-ObjDecl-init j))) h
    ∙ ap (λ ks. stars (out-ObjDecl o).stars ++ kind.Name (out-ObjDecl o).name ∷ (ks ++ kind.Sign sign.Assign ∷ spell_init (init_tree i)))
    (dims _ (block.hidden-the_row-Dim-4 (out-ObjDecl o).dims) ∙ ap (flat_map (λ d. spell_dims (one_dim d))) (items_hidden-the_row-Dim-4 (out-ObjDecl o).dims))
