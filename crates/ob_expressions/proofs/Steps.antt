-- Walks over trees with lists: one turn of a list, and the parts of a declarator.
use Rattle.std.proofs.Common.{◌≡◌, ◌<◌, ℕ, suc, ◌+◌, List, [], ◌∷◌, ◌++◌, drop, length, get_or, refl, sym, ap, ◌∙◌, Result, Ok, Err}
use Rattle.std.proofs.Math.Seq.{drop-cons}
use Rattle.ob_tree.specs.declared.expressions.Dim.{Dim, Dim', Dim-length-None', Dim-length-Some'}
use Rattle.ob_tree.specs.declared.expressions.ExprNode.TheBlock as block
use Rattle.ob_tree.specs.declared.expressions.ExprNode.TheBlock.{Held-ObjDecl-init, ObjDecl-init-None', ObjDecl-init-Some'}
use Rattle.ob_tree.specs.declared.expressions.MemberDecl.{MemberDecl, out-MemberDecl}
use Rattle.ob_tree.specs.declared.expressions.ObjDecl.{ObjDecl, out-ObjDecl}
use Rattle.ob_tree.specs.declared.expressions.TypeName.{TypeName, out-TypeName}
use Rattle.ob_tree.specs.declared.faults.TypeFault.{TypeFault}
use Rattle.ob_tree.specs.declared.faults.TypeFault.TheVariants as code
use Rattle.ob_tree.specs.Levels.{mark_of}
use Rattle.ob_tree.specs.Trees.{DimTrees, MemberTrees, TypeTree}
use Rattle.ob_tree.specs.Types.{PlainType, PlainMember}
use Rattle.ob_tree.specs.ExpressionView.{node_tree, dim_trees, held_init, obj_tree, obj_trees, one_member, spec_tree, type_tree}
use Rattle.ob_typed.specs.Conversions.{Checked, value}
use Rattle.ob_typed.specs.Faults.{Answer, Fault, Walk, by, next}
use Rattle.ob_typed.specs.Scopes.{Env, Known}
use Rattle.ob_typed.specs.Specifiers.{declarator_type, length_rule, member_rule}
use Rattle.ob_typed.specs.Expressions.{check, check_lengths, check_member, check_members, check_names, check_spec, check_type}
use Rattle.ob_conversions.specs.Gives.{Gives}
use Rattle.ob_context.specs.Walks.{Walks}
use Rattle.ob_expressions.specs.Lists.{dim_length}
use Rattle.ob_expressions.proofs.Rows.{line_tree, obj_tree_of, type_tree_of}

-- a part, then another, then the rest
next_next : {S A B C : Type 0} (w : Walk S A) (f : A → S → Walk S B) (g : B → S → Walk S C) → next (next w f) g ≡ next w (λ a s. next (f a s) g)
next_next (Ok r) f g = refl
next_next (Err e) f g = refl

next_same : {S A : Type 0} (w : Walk S A) → next w (λ a s. Ok (a, s)) ≡ w
next_same (Ok r) = refl
next_same (Err e) = refl

first_dim : (env : Env) (done : List ℕ) (d : Dim) (ds : List Dim) (k : Known) →
    check_lengths env done (dim_trees (d ∷ ds)) k ≡ next (dim_length env d k) (λ n k1. check_lengths env (done ++ n ∷ []) (dim_trees ds) k1)
first_dim env done (Dim' Dim-length-None') ds k = refl
first_dim env done (Dim' (Dim-length-Some' f a l e)) ds k =
    sym (next_next (check env (node_tree e f a l) k) (λ x k1. by (length_rule (mark_of (node_tree e f a l)) (value x)) k1) (λ n k1. check_lengths env (done ++ n ∷ []) (dim_trees ds) k1))

pub dims_turn : (env : Env) (start : Walk Known (List ℕ)) (done : List ℕ) (ds : List Dim) (i : ℕ) (d : Dim) (k : Known) →
    i < length ds → start ≡ check_lengths env done (dim_trees (drop i ds)) k →
    start ≡ next (dim_length env (get_or ds i d) k) (λ n k1. check_lengths env (done ++ n ∷ []) (dim_trees (drop (suc i) ds)) k1)
dims_turn env start done ds i d k lt before =
    before
    ∙ ap (λ l. check_lengths env done (dim_trees l) k) (drop-cons ds i d lt)
    ∙ first_dim env done (get_or ds i d) (drop (suc i) ds) k

-- a declaration of members alone
pub line_walk : (env : Env) (done : List PlainMember) (m : MemberDecl) (k k1 : Known) (t : PlainType) →
    check_spec env (spec_tree (out-MemberDecl m).spec) k ≡ Ok (t, k1) →
    check_members env done (one_member m) k ≡ check_names env t done (obj_trees (out-MemberDecl m).names.items) k1
line_walk env done m k k1 t h =
    ap (λ x. check_members env done x k) (line_tree m)
    ∙ ap (λ w. next w (λ u k2. next (check_names env u done (obj_trees (out-MemberDecl m).names.items) k2) (λ found k3. Ok (found, k3)))) h
    ∙ next_same (check_names env t done (obj_trees (out-MemberDecl m).names.items) k1)

-- the declarator of a member, whether an initialiser follows or not
held_walk : (env : Env) (t : PlainType) (done : List PlainMember) (stars : ℕ) (name : List ℕ) (at : ℕ) (ds : DimTrees) (i : Held-ObjDecl-init) (k : Known) →
    check_member env t done (held_init stars name at ds i) k
    ≡ next (check_lengths env [] ds k) (λ ns k1. by (member_rule k1.structs done (declarator_type t stars ns) name at) k1)
held_walk env t done stars name at ds ObjDecl-init-None' k = refl
held_walk env t done stars name at ds (ObjDecl-init-Some' i) k = refl

member_walk : (env : Env) (t : PlainType) (done : List PlainMember) (o : ObjDecl) (k : Known) →
    check_member env t done (obj_tree o) k
    ≡ next (check_lengths env [] (dim_trees (out-ObjDecl o).dims.items) k) (λ ns k1. by (member_rule k1.structs done (declarator_type t (out-ObjDecl o).stars ns) (out-ObjDecl o).name (out-ObjDecl o).at) k1)
member_walk env t done o k =
    ap (λ x. check_member env t done x k) (obj_tree_of o)
    ∙ held_walk env t done (out-ObjDecl o).stars (out-ObjDecl o).name (out-ObjDecl o).at (dim_trees (out-ObjDecl o).dims.items) (block.back-ObjDecl-init (out-ObjDecl o).init) k

pub member_fault : (env : Env) (t : PlainType) (done : List PlainMember) (o : ObjDecl) (k : Known) (f : Fault) →
    check_lengths env [] (dim_trees (out-ObjDecl o).dims.items) k ≡ Err f → check_member env t done (obj_tree o) k ≡ Err f
member_fault env t done o k f h =
    member_walk env t done o k
    ∙ ap (λ w. next w (λ ns k1. by (member_rule k1.structs done (declarator_type t (out-ObjDecl o).stars ns) (out-ObjDecl o).name (out-ObjDecl o).at) k1)) h

pub member_on : (env : Env) (t u : PlainType) (done : List PlainMember) (o : ObjDecl) (k k1 : Known) (ns : List ℕ) →
    check_lengths env [] (dim_trees (out-ObjDecl o).dims.items) k ≡ Ok (ns, k1) → u ≡ declarator_type t (out-ObjDecl o).stars ns →
    check_member env t done (obj_tree o) k ≡ by (member_rule k1.structs done u (out-ObjDecl o).name (out-ObjDecl o).at) k1
member_on env t u done o k k1 ns h is =
    member_walk env t done o k
    ∙ ap (λ w. next w (λ ms k2. by (member_rule k2.structs done (declarator_type t (out-ObjDecl o).stars ms) (out-ObjDecl o).name (out-ObjDecl o).at) k2)) h
    ∙ ap (λ v. by (member_rule k1.structs done v (out-ObjDecl o).name (out-ObjDecl o).at) k1) (sym is)

-- a rule's answer, where a walk ends with the rule
pub gives_walks : {S A B : Type 0} (view : A → B) (r : Result A TypeFault) (s : S) (answer : Answer B) (w : Walk S B) → Gives view r answer → w ≡ by answer s → Walks view r s w
gives_walks view (Ok x) s answer w g is = is ∙ ap (λ a. by a s) g
gives_walks view (Err (code.Fault kind place)) s answer w g is = is ∙ ap (λ a. by a s) g
gives_walks view (Err code.NoMemory) s answer w g is = tt

-- a type name
pub type_walk : (env : Env) (t : TypeName) (k : Known) →
    check_type env (type_tree t) k
    ≡ next (check_spec env (spec_tree (out-TypeName t).spec) k) (λ u k1. next (check_lengths env [] (dim_trees (out-TypeName t).dims.items) k1) (λ ns k2. Ok (declarator_type u (out-TypeName t).stars ns, k2)))
type_walk env t k = ap (λ x. check_type env x k) (type_tree_of t)
