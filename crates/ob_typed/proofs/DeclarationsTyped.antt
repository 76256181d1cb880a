-- Each object that is declared (C99 6.7) is at a place, and the statements that initialise it are well typed.
use Rattle.std.proofs.Common.{◌≡◌, ℕ, zero, Bool, true, false, Option, Some, None, option_map, Ok, Err, List, [], ◌∷◌, length, refl}
use Rattle.std.specs.Prelude.{if◌then◌else◌}
use Rattle.std.specs.Option.{is_some}
use Rattle.std.specs.Str.{bytes_eq}
use Rattle.ob_tree.specs.Sizes.{Layout, has_size, layout, repeated}
use Rattle.ob_tree.specs.Trees.{ObjTree, SpecTree}
use Rattle.ob_tree.specs.Trees.{ObjTree as declarator, SpecTree as spec}
use Rattle.ob_tree.specs.Types.{PlainStructs, PlainType}
use Rattle.ob_tree.specs.Types.{PlainType as type}
use Rattle.ob_tree.specs.Valid.{ValidObj, ValidSpec}
use Rattle.ob_typed.specs.Completeness.{is_object_type, is_sized}
use Rattle.ob_typed.specs.Declarations.{alone, check_static, named, reserved, set_static, static_init, static_object, variable, variable_rule, variable_type}
use Rattle.ob_typed.specs.Expressions.{check_lengths, meaning_of}
use Rattle.ob_typed.specs.Faults.{Answer, Walk, by, next}
use Rattle.ob_typed.specs.Images.{image, no_image}
use Rattle.ob_typed.specs.Initialisers.{check_init, completed, foreseen}
use Rattle.ob_typed.specs.Scopes.{Declared, Env, Known, Meaning, declaring, find, is_at}
use Rattle.ob_typed.specs.Scopes.{Meaning as meaning}
use Rattle.ob_typed.specs.Specifiers.{declarator_type, object_type}
use Rattle.ob_typed.specs.declared.names.VarName.{VarName}
use Rattle.ob_typed.specs.TypedTree.{TypedInit, TypedObject}
use Rattle.ob_typed.specs.TypedTree.{TypedLean as lean}
use Rattle.ob_typed.specs.WellTyped.{Around, IsTypedLean}
use Rattle.ob_typed.proofs.ConvertedValues.{IsPlaceType}
use Rattle.ob_typed.proofs.ExpressionsTyped.{IsRightEnv, lengths_give, open_lengths_give, spec_gives}
use Rattle.ob_typed.proofs.GrowingStructs.{grows_same, object_sized}
use Rattle.ob_typed.proofs.InitialisersTyped.{init_gives}
use Rattle.ob_typed.proofs.MembersOfStructs.{place_of_object}
use Rattle.ob_typed.proofs.PostfixNodes.{IsMeant}
use Rattle.ob_typed.proofs.StructSteps.{opened_moves, static_moves}
use Rattle.ob_typed.proofs.Walks.{Any, Fine, Gives, GivesIn, Moves, Said, Says, fine_if, fine_map, fine_then, gives_after, gives_moved, gives_next, gives_ok, gives_rule, moves_more, says_after, says_next, says_ok, says_rule}

-- ---- types of objects

pub object_fine : (s : PlainStructs) (t : PlainType) (at : ℕ) → Fine (λ u. (u ≡ t) × (is_object_type s u ≡ true)) (object_type s t at)
object_fine s t at =
    fine_if (λ u. (u ≡ t) × (is_object_type s u ≡ true)) (is_object_type s t) _ _
    (λ object. (refl, object))
    (λ other. fine_if (λ u. (u ≡ t) × (is_object_type s u ≡ true)) (is_sized s t) _ _ (λ sized. tt) (λ unsized. tt))

-- of a declared object, whose length may be missing
abbrev pub IsVariable : PlainStructs → PlainType → Type 0
IsVariable s t = IsPlaceType t × (has_size s t ≡ true)

variable_of_object : (s : PlainStructs) (t : PlainType) → is_object_type s t ≡ true → IsVariable s t
variable_of_object s t h = (place_of_object s t h, object_sized s t h)

sized_array : (o : Option Layout) (n : ℕ) → is_some o ≡ true → is_some (option_map (λ l. repeated l n) o) ≡ true
sized_array None n h = h
sized_array (Some l) n h = refl

whole_fine : (s : PlainStructs) (t : PlainType) (at : ℕ) → Fine (IsVariable s) (object_type s t at)
whole_fine s t at =
    fine_map (λ u. (u ≡ t) × (is_object_type s u ≡ true)) (IsVariable s) (object_type s t at)
    (λ u h. variable_of_object s u h.1) (object_fine s t at)

type_fine : (s : PlainStructs) (initial : Bool) (t : PlainType) (at : ℕ) → Fine (IsVariable s) (variable_type s initial t at)
type_fine s true (type.Array t zero) at =
    fine_then (λ u. (u ≡ t) × (is_object_type s u ≡ true)) (IsVariable s) (object_type s t at) _ (object_fine s t at)
    (λ u h. (tt, sized_array (layout s u) 0 (object_sized s u h.1)))
type_fine s initial t at = whole_fine s t at

-- no name stands twice in its block
abbrev pub IsNew : Env → (name : List ℕ) → Type 0
IsNew env name = is_at env.depth (find name env.declared) ≡ false

pub variable_fine : (s : PlainStructs) (env : Env) (initial : Bool) (name : List ℕ) (t : PlainType) (at : ℕ) → Fine (λ u. IsVariable s u × IsNew env name) (variable_rule s env initial name t at)
variable_fine s env initial name t at =
    fine_if (λ u. IsVariable s u × IsNew env name) (is_at env.depth (find name env.declared)) _ _
    (λ twice. tt)
    (λ first. fine_map (IsVariable s) (λ u. IsVariable s u × IsNew env name) (variable_type s initial t at) (λ u h. (h, first)) (type_fine s initial t at))

-- ---- declared objects

abbrev pub IsPlaced : Around → Meaning → Type 0
IsPlaced c (meaning.Variable t l) = IsPlaceType t × IsTypedLean c l
IsPlaced c (meaning.Function result params) = ⊥
IsPlaced c (meaning.BuiltIn b) = ⊥

placed_meant : (c : Around) (numbered bodies : List (List ℕ)) (name : List ℕ) (x : Meaning) → IsPlaced c x → IsMeant c numbered bodies name (Some x)
placed_meant c numbered bodies name (meaning.Variable t l) h = h
placed_meant c numbered bodies name (meaning.Function result params) h = absurd h
placed_meant c numbered bodies name (meaning.BuiltIn b) h = tt

pub chosen_meant : (c : Around) (numbered bodies : List (List ℕ)) (name : List ℕ) (d : Declared) (o : Option Declared) (b : Bool) → IsMeant c numbered bodies name (Some d.meaning) → IsMeant c numbered bodies name (meaning_of o) → IsMeant c numbered bodies name (meaning_of (if b then Some d else o))
chosen_meant c numbered bodies name d o true h i = h
chosen_meant c numbered bodies name d o false h i = i

pub placed_first : (c : Around) (numbered bodies : List (List ℕ)) (ds : List Declared) (d : Declared) → IsPlaced c d.meaning → ((name : List ℕ) → IsMeant c numbered bodies name (meaning_of (find name ds))) → (name : List ℕ) → IsMeant c numbered bodies name (meaning_of (find name (d ∷ ds)))
placed_first c numbered bodies ds d h i name =
    chosen_meant c numbered bodies name d (find name ds) (bytes_eq d.name name) (placed_meant c numbered bodies name d.meaning h) (i name)

pub right_declaring : (c : Around) (bodies : List (List ℕ)) (env : Env) (d : Declared) → IsPlaced c d.meaning → IsRightEnv c bodies env → IsRightEnv c bodies (declaring env d)
right_declaring c bodies env d h ok = record { means = placed_first c env.bodies bodies env.declared d h ok.means }

-- an object at a place, whose name is new in its block
abbrev pub IsFresh : Around → Env → Declared → Type 0
IsFresh c env d = IsPlaced c d.meaning × (d.depth ≡ env.depth) × (is_at env.depth (find d.name env.declared) ≡ false)

-- ---- static objects

pub static_says : (c : Around) (env : Env) (line : ℕ) (base : PlainType) (o : ObjTree) (k : Known) → Says (IsFresh c env) (check_static env line base o k)
static_says c env line base (declarator.Bare stars name at ds) k =
    says_after (check_lengths env [] ds (reserved (named name line) k)) (λ ns k1.
    says_rule (variable_rule k1.structs env false name (declarator_type base stars ns) at) k1 (variable_fine k1.structs env false name (declarator_type base stars ns) at) (λ t k2 h.
    says_ok {a = variable name env.depth t (lean.Static (length k.statics))} {s = set_static (length k.statics) (static_object (named name line) t no_image) k2} ((h.0.0, tt), refl, h.1)))
static_says c env line base (declarator.Initial stars name at ds i) k =
    says_after (check_lengths env [] ds (reserved (named name line) k)) (λ ns k1.
    says_rule (variable_rule k1.structs env true name (declarator_type base stars ns) at) k1 (variable_fine k1.structs env true name (declarator_type base stars ns) at) (λ t k2 h.
    says_next (init_says (named name line) (length k.statics) at t (check_init (declaring env (variable name env.depth t (lean.Static (length k.statics)))) true (Some t) i (set_static (length k.statics) (static_object (named name line) (foreseen t i) no_image) k2))) (λ u k3 place.
    says_ok {a = variable name env.depth u (lean.Static (length k.statics))} {s = k3} ((place, tt), refl, h.1))))
  where
    ruled : (a : Answer PlainType) (k : Known) (set : PlainType → Known → Known) → Fine IsPlaceType a → Said IsPlaceType (next (by a k) (λ u l. Ok (u, set u l)))
    ruled (Ok u) k set h = h
    ruled (Err f) k set h = tt

    given : (name : VarName) (n at : ℕ) (t : PlainType) (w : Walk Known TypedInit) → Said IsPlaceType (static_init name n at t w)
    given name n at t (Ok r) =
        ruled (object_type r.1.structs (completed t r.0) at) r.1 (λ u k. set_static n (static_object name u (image k.structs u r.0)) k)
        (fine_map (λ u. (u ≡ completed t r.0) × (is_object_type r.1.structs u ≡ true)) IsPlaceType (object_type r.1.structs (completed t r.0) at)
        (λ u h. place_of_object r.1.structs u h.1) (object_fine r.1.structs (completed t r.0) at))
    given name n at t (Err f) = tt

    init_says : (name : VarName) (n at : ℕ) (t : PlainType) (w : Walk Known TypedInit) → Says IsPlaceType (static_init name n at t w)
    init_says name n at t w = record { said = given name n at t w }

set_moves : (n : ℕ) (o : TypedObject) (k : Known) → Moves k (set_static n o k)
set_moves n o k = record { grows = grows_same k.structs; sound = λ h. h; called = λ bodies h. h }

module _ (c : Around) (bodies : List (List ℕ)) where
  ruled_gives : (k : Known) (l : Known) (a : Answer PlainType) (set : PlainType → Known → Known) → Moves k l → ((u : PlainType) (m : Known) → Moves m (set u m)) → GivesIn c bodies {A = PlainType} Any k (next (by a l) (λ u m. Ok (u, set u m)))
  ruled_gives k l (Ok u) set h each = (moves_more k l (set u l) h (each u l), λ sound leads. tt)
  ruled_gives k l (Err f) set h each = tt

  static_init_in : (name : VarName) (n at : ℕ) (t : PlainType) (P : TypedInit → Type 0) (k : Known) (w : Walk Known TypedInit) → GivesIn c bodies P k w → GivesIn c bodies {A = PlainType} Any k (static_init name n at t w)
  static_init_in name n at t P k (Ok r) h =
      ruled_gives k r.1 (object_type r.1.structs (completed t r.0) at) (λ u m. set_static n (static_object name u (image m.structs u r.0)) m) h.0
      (λ u m. set_moves n (static_object name u (image m.structs u r.0)) m)
  static_init_in name n at t P k (Err f) h = tt

  static_init_gives : (name : VarName) (n at : ℕ) (t : PlainType) {P : TypedInit → Type 0} {k : Known} {w : Walk Known TypedInit} → Gives c bodies P k w → Gives c bodies {A = PlainType} Any k (static_init name n at t w)
  static_init_gives name n at t {P = P} {k = k} {w = w} h = record { each = static_init_in name n at t P k w h.each }

  pub static_gives : (env : Env) → IsRightEnv c bodies env → (line : ℕ) (base : PlainType) (o : ObjTree) → ValidObj o → (k : Known) → Gives c bodies {A = Declared} Any k (check_static env line base o k)
  static_gives env ok line base (declarator.Bare stars name at ds) v k =
      gives_after c bodies (static_moves k (static_object (named name line) type.Void no_image))
      (gives_next c bodies (lengths_give c bodies env ok [] ds v.1 (reserved (named name line) k)) (λ ns k1.
      gives_rule c bodies (variable_rule k1.structs env false name (declarator_type base stars ns) at) _ (variable_fine k1.structs env false name (declarator_type base stars ns) at) (λ t h.
      gives_moved c bodies (set_moves (length k.statics) (static_object (named name line) t no_image) k1) (λ sound leads any. tt))))
  static_gives env ok line base (declarator.Initial stars name at ds i) v k =
      gives_after c bodies (static_moves k (static_object (named name line) type.Void no_image))
      (gives_next c bodies (open_lengths_give c bodies env ok [] ds v.1 (reserved (named name line) k)) (λ ns k1.
      gives_rule c bodies (variable_rule k1.structs env true name (declarator_type base stars ns) at) _ (variable_fine k1.structs env true name (declarator_type base stars ns) at) (λ t h.
      let d = variable name env.depth t (lean.Static (length k.statics)) in
      let object = static_object (named name line) (foreseen t i) no_image in
      gives_after c bodies (set_moves (length k.statics) object k1)
      (gives_next c bodies
      (static_init_gives (named name line) (length k.statics) at t
      (init_gives c bodies (declaring env d) (right_declaring c bodies env d (h.0.0, tt) ok) true (Some t) i v.2 (set_static (length k.statics) object k1) h.0.1))
      (λ u k3. gives_ok c bodies (λ any other. tt))))))

  -- a tag alone
  pub alone_gives : (env : Env) → IsRightEnv c bodies env → (s : SpecTree) → ValidSpec s → (k : Known) → Gives c bodies {A = PlainType} Any k (alone env s k)
  alone_gives env ok (spec.Tag first name) v k = gives_moved c bodies (opened_moves (Some name) env.depth k) (λ sound leads. tt)
  alone_gives env ok (spec.Void first) v k = spec_gives c bodies env ok (spec.Void first) v k
  alone_gives env ok (spec.SizeT first) v k = spec_gives c bodies env ok (spec.SizeT first) v k
  alone_gives env ok (spec.Integer first words) v k = spec_gives c bodies env ok (spec.Integer first words) v k
  alone_gives env ok (spec.Struct first tag ms) v k = spec_gives c bodies env ok (spec.Struct first tag ms) v k
