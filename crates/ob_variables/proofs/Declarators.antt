-- The declarator of an object from its parts.
use Rattle.std.proofs.Common.{◌≡◌, ◌<◌, ℕ, Bool, true, false, Option, Some, None, List, [], ◌∷◌, length, arith, refl, sym, ap, ◌∙◌, Ok, Err}
use Rattle.std.specs.Prelude.{is_some, option_map}
use Rattle.ob_tree.specs.declared.expressions.ExprNode.TheBlock as block
use Rattle.ob_tree.specs.declared.expressions.Init.{Init}
use Rattle.ob_tree.specs.declared.expressions.ObjDecl.{ObjDecl, out-ObjDecl, is-ObjDecl'}
use Rattle.ob_tree.specs.ExpressionView.{obj_tree, obj_trees, held_init, dim_row, dim_trees, init_tree}
use Rattle.ob_tree.specs.Trees.{DimTrees, SpecTree}
use Rattle.ob_tree.specs.Types.{PlainType}
use Rattle.ob_tree.proofs.Views.{dims-of}
use Rattle.ob_typed.specs.Declarations.{Body, Introduced, base_type, check_automatic, check_static, in_body, named, reserved, variable_rule, with_known}
use Rattle.ob_typed.specs.Expressions.{check_lengths, check_spec}
use Rattle.ob_typed.specs.Faults.{Answer, Walk, next, by}
use Rattle.ob_typed.specs.Scopes.{Declared, Env, Known}
use Rattle.ob_typed.specs.Specifiers.{declarator_type}
use Rattle.ob_variables.specs.BodyView.{name_of}
use Rattle.ob_variables.specs.Pieces.{local_rest, own_type, static_rest}

-- one part of a part
next_next : {S A B C : Type 0} (w : Walk S A) (f : A → S → Walk S B) (g : B → S → Walk S C) → next w (λ a s. next (f a s) g) ≡ next (next w f) g
next_next (Ok r) f g = refl
next_next (Err e) f g = refl

abbrev own_parts : Env → PlainType → (stars : ℕ) → (name : List ℕ) → (at : ℕ) → DimTrees → (initial : Bool) → Known → Walk Known PlainType
own_parts env base stars name at ds initial k =
    next (check_lengths env [] ds k) (λ ns k1. by (variable_rule k1.structs env initial name (declarator_type base stars ns) at) k1)

own_held : (env : Env) (base : PlainType) (stars : ℕ) (name : List ℕ) (at : ℕ) (ds : DimTrees) (i : Option Init) (k : Known) →
    own_type env base (held_init stars name at ds (block.back-ObjDecl-init i)) k ≡ own_parts env base stars name at ds (is_some i) k
own_held env base stars name at ds None k = refl
own_held env base stars name at ds (Some i) k = refl

pub own_is : (env : Env) (base : PlainType) (o : ObjDecl) (k : Known) →
    own_type env base (obj_tree o) k
    ≡ next (check_lengths env [] (dim_trees (out-ObjDecl o).dims.items) k)
    (λ ns k1. by (variable_rule k1.structs env (is_some (out-ObjDecl o).init) (name_of o) (declarator_type base (out-ObjDecl o).stars ns) (out-ObjDecl o).at) k1)
own_is env base o k =
    ap (λ x. own_type env base (obj_tree x) k) (is-ObjDecl' o)
    ∙ own_held env base (out-ObjDecl o).stars (name_of o) (out-ObjDecl o).at (dim_row (block.hidden-the_row-Dim-4 (out-ObjDecl o).dims)) (out-ObjDecl o).init k
    ∙ ap (λ ds. own_parts env base (out-ObjDecl o).stars (name_of o) (out-ObjDecl o).at ds (is_some (out-ObjDecl o).init) k) (dims-of (out-ObjDecl o).dims)

-- ---- static objects

static_held : (env : Env) (line : ℕ) (base : PlainType) (stars : ℕ) (name : List ℕ) (at : ℕ) (ds : DimTrees) (i : Option Init) (k : Known) →
    check_static env line base (held_init stars name at ds (block.back-ObjDecl-init i)) k
    ≡ next (own_type env base (held_init stars name at ds (block.back-ObjDecl-init i)) (reserved (named name line) k))
    (λ t k1. static_rest env (named name line) (length k.statics) at t (option_map init_tree i) k1)
static_held env line base stars name at ds None k = next_next (check_lengths env [] ds (reserved (named name line) k)) _ _
static_held env line base stars name at ds (Some i) k = next_next (check_lengths env [] ds (reserved (named name line) k)) _ _

pub static_is : (env : Env) (line : ℕ) (base : PlainType) (o : ObjDecl) (k : Known) →
    check_static env line base (obj_tree o) k
    ≡ next (own_type env base (obj_tree o) (reserved (named (name_of o) line) k))
    (λ t k1. static_rest env (named (name_of o) line) (length k.statics) (out-ObjDecl o).at t (option_map init_tree (out-ObjDecl o).init) k1)
static_is env line base o k =
    let rest : PlainType → Known → Walk Known Declared =
    λ t k1. static_rest env (named (name_of o) line) (length k.statics) (out-ObjDecl o).at t (option_map init_tree (out-ObjDecl o).init) k1 in
    ap (λ x. check_static env line base (obj_tree x) k) (is-ObjDecl' o)
    ∙ static_held env line base (out-ObjDecl o).stars (name_of o) (out-ObjDecl o).at (dim_row (block.hidden-the_row-Dim-4 (out-ObjDecl o).dims)) (out-ObjDecl o).init k
    ∙ ap (λ x. next (own_type env base (obj_tree x) (reserved (named (name_of o) line) k)) rest) (sym (is-ObjDecl' o))

-- ---- automatic objects

rule_inside : (b : Body) (a : Answer PlainType) (k : Known) (g : PlainType → Body → Walk Body Introduced) →
    next (by a (with_known k b)) g ≡ next (in_body b (by a k)) g
rule_inside b (Ok t) k g = refl
rule_inside b (Err f) k g = refl

next_inside : (b : Body) (w : Walk Known (List ℕ)) (rule : List ℕ → Known → Answer PlainType) (g : PlainType → Body → Walk Body Introduced) →
    next (in_body b w) (λ ns b1. next (by (rule ns b1.known) b1) g) ≡ next (in_body b (next w (λ ns k1. by (rule ns k1) k1))) g
next_inside b (Ok r) rule g = rule_inside b (rule r.0 r.1) r.1 g
next_inside b (Err f) rule g = refl

automatic_held : (env : Env) (line : ℕ) (base : PlainType) (stars : ℕ) (name : List ℕ) (at : ℕ) (ds : DimTrees) (i : Option Init) (b : Body) →
    check_automatic env line base (held_init stars name at ds (block.back-ObjDecl-init i)) b
    ≡ next (in_body b (own_type env base (held_init stars name at ds (block.back-ObjDecl-init i)) b.known))
    (λ t b1. local_rest env (named name line) (length b.locals) at t (option_map init_tree i) b1)
automatic_held env line base stars name at ds None b =
    next_inside b (check_lengths env [] ds b.known) (λ ns k1. variable_rule k1.structs env false name (declarator_type base stars ns) at)
    (λ t b1. local_rest env (named name line) (length b.locals) at t None b1)
automatic_held env line base stars name at ds (Some i) b =
    next_inside b (check_lengths env [] ds b.known) (λ ns k1. variable_rule k1.structs env true name (declarator_type base stars ns) at)
    (λ t b1. local_rest env (named name line) (length b.locals) at t (Some (init_tree i)) b1)

pub automatic_is : (env : Env) (line : ℕ) (base : PlainType) (o : ObjDecl) (b : Body) →
    check_automatic env line base (obj_tree o) b
    ≡ next (in_body b (own_type env base (obj_tree o) b.known))
    (λ t b1. local_rest env (named (name_of o) line) (length b.locals) (out-ObjDecl o).at t (option_map init_tree (out-ObjDecl o).init) b1)
automatic_is env line base o b =
    let rest : PlainType → Body → Walk Body Introduced =
    λ t b1. local_rest env (named (name_of o) line) (length b.locals) (out-ObjDecl o).at t (option_map init_tree (out-ObjDecl o).init) b1 in
    ap (λ x. check_automatic env line base (obj_tree x) b) (is-ObjDecl' o)
    ∙ automatic_held env line base (out-ObjDecl o).stars (name_of o) (out-ObjDecl o).at (dim_row (block.hidden-the_row-Dim-4 (out-ObjDecl o).dims)) (out-ObjDecl o).init b
    ∙ ap (λ x. next (in_body b (own_type env base (obj_tree x) b.known)) rest) (sym (is-ObjDecl' o))

-- ---- the specifier of a declaration

pub base_some : (env : Env) (s : SpecTree) (os : List ObjDecl) (k : Known) → 0 < length os → base_type env s (obj_trees os) k ≡ check_spec env s k
base_some env s [] k h = absurd (omega (arith, h))
base_some env s (o ∷ os) k h = refl
