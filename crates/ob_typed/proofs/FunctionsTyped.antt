-- Function declarators (C99 6.7.5.3, 6.9.1): parameters are numbers and pointers, and a name that is declared again
-- stands for what it stood for.
use Rattle.std.proofs.Common.{◌≡◌, ℕ, suc, ◌+◌, Bool, true, false, Option, Some, None, List, [], ◌∷◌, ◌++◌, refl, sym, ap, ◌∙◌, subst}
use Rattle.std.specs.List.{AllByRecursion}
use Rattle.std.specs.Prelude.{not, ◌&&◌, ◌||◌, if◌then◌else◌}
use Rattle.std.specs.Str.{bytes_eq}
use Rattle.std.proofs.lemmas.Bool.{true≢false}
use Rattle.std.proofs.lemmas.Option.{none-some}
use Rattle.ob_tree.specs.Programs.{ParamTree, ParamsTree}
use Rattle.ob_tree.specs.Programs.{ParamsTree as params}
use Rattle.ob_tree.specs.ProgramValid.{ValidList, ValidParam, ValidParams}
use Rattle.ob_tree.specs.Types.{PlainStructs, PlainType}
use Rattle.ob_tree.specs.Types.{PlainType as type}
use Rattle.ob_typed.specs.Declarations.{variable}
use Rattle.ob_typed.specs.Expressions.{check_lengths, check_spec, meaning_of}
use Rattle.ob_typed.specs.Functions.{Parameter, check_each, check_parameter, check_params, function_rule, is_builtin, is_declared_here, is_one_of, is_same_function, may_be, parameter_env, parameter_rule, parameter_types, points_too_far, with_function, with_parameter, with_parameters}
use Rattle.ob_typed.specs.Scopes.{Declared, Env, Known, Meaning, find}
use Rattle.ob_typed.specs.Scopes.{Meaning as meaning}
use Rattle.ob_typed.specs.Specifiers.{parameter_type}
use Rattle.ob_typed.specs.TypeTests.{is_scalar, is_struct, same_type, same_types}
use Rattle.ob_typed.specs.TypedTree.{TypedLean as lean}
use Rattle.ob_typed.specs.WellTyped.{AreScalars, Around, IsScalar}
use Rattle.ob_typed.proofs.ConvertedValues.{IsPlaceType, scalar_is}
use Rattle.ob_typed.proofs.DeclarationsTyped.{chosen_meant, placed_first}
use Rattle.ob_typed.proofs.ExpressionsTyped.{IsRightEnv, open_lengths_give, spec_gives}
use Rattle.ob_typed.proofs.PostfixNodes.{IsMeant}
use Rattle.ob_typed.proofs.SameTypes.{both, denied, equal_bytes, neither, one_list, one_type, same_bytes}
use Rattle.ob_typed.proofs.Walks.{Any, Fine, Gives, Says, fine_any, fine_if, gives_by_two, gives_map, gives_next, gives_ok, gives_step, says_after, says_by, says_next, says_ok}

-- ---- declarations in force

abbrev pub AreRight : Around → (numbered bodies : List (List ℕ)) → List Declared → Type 0
AreRight c numbered bodies ds = (name : List ℕ) → IsMeant c numbered bodies name (meaning_of (find name ds))

-- what is declared in the first is so in the second
abbrev pub Extended : List Declared → List Declared → Type 0
Extended ds es = (name : List ℕ) (d : Declared) → find name ds ≡ Some d → find name es ≡ Some d

pub right_before : (c : Around) (numbered bodies : List (List ℕ)) (ds es : List Declared) → Extended ds es → AreRight c numbered bodies es → AreRight c numbered bodies ds
right_before c numbered bodies ds es more right name = of_found (find name ds) refl
  where
    of_found : (o : Option Declared) → find name ds ≡ o → IsMeant c numbered bodies name (meaning_of o)
    of_found None is = tt
    of_found (Some d) is = subst (λ o. IsMeant c numbered bodies name (meaning_of o)) (more name d is) (right name)

-- at file scope
abbrev pub AreTop : List Declared → Type 0
AreTop ds = (name : List ℕ) (d : Declared) → find name ds ≡ Some d → d.depth ≡ 0

-- ---- parameters

pub scalar_place : (t : PlainType) → IsScalar t → IsPlaceType t
scalar_place (type.Int k) h = tt
scalar_place (type.Pointer t) h = tt
scalar_place type.Void h = absurd h
scalar_place (type.Array t n) h = absurd h
scalar_place (type.Struct n) h = absurd h

one_right : (c : Around) (numbered bodies : List (List ℕ)) (depth n : ℕ) (o : Option (List ℕ)) (t : PlainType) (ds : List Declared) → IsScalar t → AreRight c numbered bodies ds → AreRight c numbered bodies (with_parameter depth n o t ds)
one_right c numbered bodies depth n None t ds s right = right
one_right c numbered bodies depth n (Some name) t ds s right =
    placed_first c numbered bodies ds (variable name depth t (lean.Local n)) (scalar_place t s, tt) right

pub with_right : (c : Around) (numbered bodies : List (List ℕ)) (depth n : ℕ) (ds : List Declared) (ps : List Parameter) → AreScalars (parameter_types ps) → AreRight c numbered bodies ds → AreRight c numbered bodies (with_parameters depth n ds ps)
with_right c numbered bodies depth n ds [] s right = right
with_right c numbered bodies depth n ds (p ∷ ps) s right =
    with_right c numbered bodies depth (n + 1) (with_parameter depth n p.name p.ty ds) ps s.1 (one_right c numbered bodies depth n p.name p.ty ds s.0 right)

scalars_more : (ps : List Parameter) (p : Parameter) → AreScalars (parameter_types ps) → IsScalar p.ty → AreScalars (parameter_types (ps ++ p ∷ []))
scalars_more [] p h s = (s, tt)
scalars_more (q ∷ ps) p h s = (h.0, scalars_more ps p h.1 s)

abbrev pub HasScalar : Parameter → Type 0
HasScalar p = IsScalar p.ty

abbrev pub HaveScalars : List Parameter → Type 0
HaveScalars ps = AreScalars (parameter_types ps)

parameter_fine : (s : PlainStructs) (env : Env) (p : ParamTree) (t : PlainType) → Fine HasScalar (parameter_rule s env p t)
parameter_fine s env p t =
    fine_if HasScalar (is_declared_here env p.name) _ _
    (λ twice. tt)
    (λ first. fine_if HasScalar (not (is_scalar t)) _ _
    (λ other. tt)
    (λ scalar. fine_if HasScalar (points_too_far s t) _ _
    (λ far. tt)
    (λ near. scalar_is t (denied (is_scalar t) scalar))))

parameter_says : (env : Env) (p : ParamTree) (k : Known) → Says HasScalar (check_parameter env p k)
parameter_says env p k =
    says_after (check_spec env p.spec k) (λ t k1. says_after (check_lengths env [] p.dims k1) (λ ns k2.
    says_by (parameter_rule k2.structs env p (parameter_type t p.stars ns)) k2 (parameter_fine k2.structs env p (parameter_type t p.stars ns))))

each_says : (env : Env) (done : List Parameter) (ps : List ParamTree) (k : Known) → HaveScalars done → Says HaveScalars (check_each env done ps k)
each_says env done [] k h = says_ok {a = done} {s = k} h
each_says env done (p ∷ ps) k h =
    says_next (parameter_says (parameter_env env done) p k) (λ q k1 s. each_says env (done ++ q ∷ []) ps k1 (scalars_more done q h s))

pub params_say : (env : Env) (ps : ParamsTree) (k : Known) → Says HaveScalars (check_params env ps k)
params_say env params.Empty k = says_ok {a = []} {s = k} tt
params_say env params.Void k = says_ok {a = []} {s = k} tt
params_say env (params.Listed ps) k = each_says env [] ps k tt

valid_list : (ps : List ParamTree) → ValidList ps → AllByRecursion ValidParam ps
valid_list [] v = absurd v
valid_list (p ∷ []) v = (v.1, tt)
valid_list (p ∷ (q ∷ ps)) v = (v.0, (v.1, v.2))

module _ (c : Around) (bodies : List (List ℕ)) where
  right_parameters : (env : Env) (done : List Parameter) → HaveScalars done → IsRightEnv c bodies env → IsRightEnv c bodies (parameter_env env done)
  right_parameters env done h ok =
      record { means = with_right c env.bodies bodies (suc env.depth) 0 env.declared done h ok.means }

  parameter_gives : (env : Env) → IsRightEnv c bodies env → (p : ParamTree) → ValidParam p → (k : Known) → Gives c bodies {A = Parameter} Any k (check_parameter env p k)
  parameter_gives env ok p v k =
      gives_next c bodies (spec_gives c bodies env ok p.spec v.0 k) (λ t k1. gives_next c bodies (open_lengths_give c bodies env ok [] p.dims v.2 k1) (λ ns k2.
      gives_by_two c bodies _ (λ sound leads i j. fine_any _)))

  each_gives : (env : Env) → IsRightEnv c bodies env → (done : List Parameter) → HaveScalars done → (ps : List ParamTree) → AllByRecursion ValidParam ps → (k : Known) → Gives c bodies {A = List Parameter} Any k (check_each env done ps k)
  each_gives env ok done h [] v k = gives_ok c bodies tt
  each_gives env ok done h (p ∷ ps) v k =
      gives_step c bodies (check_parameter (parameter_env env done) p k)
      (parameter_gives (parameter_env env done) (right_parameters env done h ok) p v.0 k)
      (parameter_says (parameter_env env done) p k)
      (λ q k1 moves s. gives_map c bodies (λ all any other. tt) (each_gives env ok (done ++ q ∷ []) (scalars_more done q h s) ps v.1 k1))

  pub params_give : (env : Env) → IsRightEnv c bodies env → (ps : ParamsTree) → ValidParams ps → (k : Known) → Gives c bodies {A = List Parameter} Any k (check_params env ps k)
  params_give env ok params.Empty v k = gives_ok c bodies tt
  params_give env ok params.Void v k = gives_ok c bodies tt
  params_give env ok (params.Listed ps) v k = each_gives env ok [] tt ps (valid_list ps v) k

-- ---- the declarator of a function

-- what is declared after it
pub record IsDeclared (ds : List Declared) (body : Bool) (name : List ℕ) (result : PlainType) (ps : List PlainType) (es : List Declared) : Type 0 where
  pub may : may_be body result ps (find name ds) ≡ true
  pub is : es ≡ with_function name result ps (find name ds) ds

pub function_fine : (ds : List Declared) (defined : List (List ℕ)) (body : Bool) (name : List ℕ) (at : ℕ) (result : PlainType) (ps : List PlainType) → Fine (IsDeclared ds body name result ps) (function_rule ds defined body name at result ps)
function_fine ds defined body name at result ps =
    fine_if (IsDeclared ds body name result ps) (not (may_be body result ps (find name ds)) || (body && is_one_of name defined)) _ _
    (λ twice. tt)
    (λ first. fine_if (IsDeclared ds body name result ps) (is_struct result) _ _
    (λ struct. tt)
    (λ other. record {
      may = denied (may_be body result ps (find name ds)) (neither (not (may_be body result ps (find name ds))) (body && is_one_of name defined) first).0;
      is = refl;
    }))

abbrev new_function : (name : List ℕ) → (result : PlainType) → List PlainType → Declared
new_function name result ps = record { name = name; depth = 0; meaning = meaning.Function result ps }

-- a name that wasn't declared hides nothing
pub extends_new : (ds : List Declared) (d : Declared) → find d.name ds ≡ None → Extended ds (d ∷ ds)
extends_new ds d none name e is = chosen (bytes_eq d.name name) refl
  where
    chosen : (b : Bool) → bytes_eq d.name name ≡ b → (if b then Some d else find name ds) ≡ Some e
    chosen true same = absurd (none-some e (sym none ∙ ap (λ x. find x ds) (same_bytes d.name name same) ∙ is))
    chosen false other = is

abbrev or_first : Declared → Option Declared → Declared
or_first x None = x
or_first x (Some y) = y

pub some_is : (d e : Declared) → Some d ≡ Some e → d ≡ e
some_is d e is = ap (or_first d) is

pub top_first : (ds : List Declared) (d : Declared) → d.depth ≡ 0 → AreTop ds → AreTop (d ∷ ds)
top_first ds d top h name e is = chosen (bytes_eq d.name name) is
  where
    chosen : (b : Bool) → (if b then Some d else find name ds) ≡ Some e → e.depth ≡ 0
    chosen true same = subst (λ (x : Declared). x.depth ≡ 0) (some_is d e same) top
    chosen false other = h name e other

module _ (ds : List Declared) (body : Bool) (name : List ℕ) (result : PlainType) (ps : List PlainType) where
  abbrev with_it : Option Declared → List Declared
  with_it o = with_function name result ps o ds

  found_extends : (o : Option Declared) → find name ds ≡ o → Extended ds (with_it o)
  found_extends None is = extends_new ds (new_function name result ps) is
  found_extends (Some d) is = λ other e found. found

  pub declared_extends : (es : List Declared) → IsDeclared ds body name result ps es → Extended ds es
  declared_extends es h = subst (Extended ds) (sym h.is) (found_extends (find name ds) refl)

  found_top : (o : Option Declared) → AreTop ds → AreTop (with_it o)
  found_top None h = top_first ds (new_function name result ps) refl h
  found_top (Some d) h = h

  pub declared_top : (es : List Declared) → IsDeclared ds body name result ps es → AreTop ds → AreTop es
  declared_top es h top = subst AreTop (sym h.is) (found_top (find name ds) top)

  found_open : (c : Around) (numbered : List (List ℕ)) (o : Option Declared) → AreRight c numbered [] ds → AreRight c numbered [] (with_it o)
  found_open c numbered None right = λ other.
      chosen_meant c numbered [] other (new_function name result ps) (find other ds) (bytes_eq name other) (λ known. absurd (true≢false (sym known))) (right other)
  found_open c numbered (Some d) right = right

  -- while no function is said to have a body
  pub declared_open : (c : Around) (numbered : List (List ℕ)) (es : List Declared) → IsDeclared ds body name result ps es → AreRight c numbered [] ds → AreRight c numbered [] es
  declared_open c numbered es h right = subst (AreRight c numbered []) (sym h.is) (found_open c numbered (find name ds) right)

-- ---- a function with a body is declared as it is

abbrev pub IsOwn : Option Declared → (result : PlainType) → List PlainType → Type 0
IsOwn None result ps = ⊥
IsOwn (Some d) result ps = d.meaning ≡ meaning.Function result ps

same_function : (result : PlainType) (ps : List PlainType) (x : Meaning) → (is_same_function result ps x && not (true && is_builtin x)) ≡ true → x ≡ meaning.Function result ps
same_function result ps (meaning.Variable t l) h = absurd (cc)
same_function result ps (meaning.Function r qs) h =
    let parts = both (same_type result r && same_types ps qs) true h in
    let same = both (same_type result r) (same_types ps qs) parts.0 in
    ap (λ x. meaning.Function x qs) (sym (one_type result r same.0)) ∙ ap (meaning.Function result) (sym (one_list ps qs same.1))
same_function result ps (meaning.BuiltIn b) h =
    let parts = both (is_same_function result ps (meaning.BuiltIn b)) false h in
    absurd (true≢false (sym parts.1))

chosen_own : (b : Bool) (d : Declared) (o : Option Declared) (result : PlainType) (ps : List PlainType) → b ≡ true → d.meaning ≡ meaning.Function result ps → IsOwn (if b then Some d else o) result ps
chosen_own true d o result ps h is = is
chosen_own false d o result ps h is = absurd (true≢false (sym h))

found_own : (ds : List Declared) (name : List ℕ) (result : PlainType) (ps : List PlainType) (o : Option Declared) → find name ds ≡ o → may_be true result ps o ≡ true → IsOwn (find name (with_function name result ps o ds)) result ps
found_own ds name result ps None is may =
    chosen_own (bytes_eq name name) (new_function name result ps) (find name ds) result ps (equal_bytes name) refl
found_own ds name result ps (Some d) is may =
    subst (λ o. IsOwn o result ps) (sym is) (same_function result ps d.meaning may)

pub declared_own : (ds : List Declared) (name : List ℕ) (result : PlainType) (ps : List PlainType) (es : List Declared) → IsDeclared ds true name result ps es → IsOwn (find name es) result ps
declared_own ds name result ps es h =
    subst (λ xs. IsOwn (find name xs) result ps) (sym h.is) (found_own ds name result ps (find name ds) refl h.may)
