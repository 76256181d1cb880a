-- Declarations in a block (C99 6.8.2): their objects are at places, and the statements that initialise these are
-- well typed.
use Rattle.std.proofs.Common.{◌≡◌, ℕ, Bool, true, false, Some, Ok, Err, List, [], ◌∷◌, ◌++◌, length, sym, subst}
use Rattle.ob_tree.specs.Programs.{LocalTree}
use Rattle.ob_tree.specs.ProgramValid.{ValidLocal, ValidNames}
use Rattle.ob_tree.specs.Trees.{ObjTree, ObjTrees, SpecTree}
use Rattle.ob_tree.specs.Trees.{ObjTree as declarator, ObjTrees as declarators}
use Rattle.ob_tree.specs.Types.{PlainType}
use Rattle.ob_tree.specs.Valid.{ValidObj, ValidObjs, ValidSpec}
use Rattle.ob_typed.specs.Completeness.{is_object_type}
use Rattle.ob_typed.specs.Declarations.{Body, Introduced, base_type, check_automatic, check_declaration, check_object, check_objects, in_body, introduced, local_init, named, set_local, variable, variable_rule, with_known, with_local}
use Rattle.ob_typed.specs.Expressions.{check_lengths}
use Rattle.ob_typed.specs.Faults.{Answer, Walk, by, next}
use Rattle.ob_typed.specs.Initialisers.{check_init, completed}
use Rattle.ob_typed.specs.Scopes.{Env, Known, declaring}
use Rattle.ob_typed.specs.Specifiers.{declarator_type, object_type}
use Rattle.ob_typed.specs.Statements.{stmt_list}
use Rattle.ob_typed.specs.declared.names.VarName.{VarName}
use Rattle.ob_typed.specs.TypedTree.{TypedInit, TypedStmt}
use Rattle.ob_typed.specs.TypedTree.{TypedLean as lean, TypedStmt as stmt}
use Rattle.ob_typed.specs.WellTyped.{AreTypedStmts, Around, IsTypedInit, IsTypedStmt}
use Rattle.ob_typed.proofs.BodyWalks.{BodyGives, BodyGivesIn, BodyMoves, body_in, body_in_next, body_map, body_moved, body_next, body_ok, body_rule, body_step, keeps_last, keeps_one, last_set}
use Rattle.ob_typed.proofs.DeclarationsTyped.{IsPlaced, alone_gives, object_fine, right_declaring, static_gives, static_says, variable_fine}
use Rattle.ob_typed.proofs.ExpressionsTyped.{IsRightEnv, lengths_give, open_lengths_give, spec_gives}
use Rattle.ob_typed.proofs.GrowingStructs.{AreSound}
use Rattle.ob_typed.proofs.InitialisersTyped.{completed_typed, init_gives}
use Rattle.ob_typed.proofs.MembersOfStructs.{place_of_object}
use Rattle.ob_typed.proofs.Walks.{Any, Fine, Gives, GivesIn, Leads, Moves, Said, Says, moves_same, says_after, says_inside, says_next, says_ok, says_rule}

-- ---- lists of statements

abbrev pub AreStmts : Around → (result : PlainType) → (locals : List PlainType) → List TypedStmt → Type 0
AreStmts c result locals [] = Unit {0}
AreStmts c result locals (s ∷ ss) = IsTypedStmt c result locals s × AreStmts c result locals ss

pub stmts_more : (c : Around) (result : PlainType) (locals : List PlainType) (ss ts : List TypedStmt) → AreStmts c result locals ss → AreStmts c result locals ts → AreStmts c result locals (ss ++ ts)
stmts_more c result locals [] ts h i = i
stmts_more c result locals (s ∷ ss) ts h i = (h.0, stmts_more c result locals ss ts h.1 i)

pub list_typed : (c : Around) (result : PlainType) (locals : List PlainType) (ss : List TypedStmt) → AreStmts c result locals ss → AreTypedStmts c result locals (stmt_list ss)
list_typed c result locals [] h = tt
list_typed c result locals (s ∷ ss) h = (h.0, list_typed c result locals ss h.1)

-- ---- what a declaration declares

abbrev pub IsIntroduced : Around → Introduced → Type 0
IsIntroduced c i = IsPlaced c i.declared.meaning

local_said : (c : Around) (name : List ℕ) (depth n at : ℕ) (t : PlainType) (w : Walk Body TypedInit) → Said (IsIntroduced c) (local_init name depth n at t w)
local_said c name depth n at t (Ok r) = ruled (object_type r.1.known.structs (completed t r.0) at) (object_fine r.1.known.structs (completed t r.0) at)
  where
    ruled : (a : Answer PlainType) → Fine (λ u. (u ≡ completed t r.0) × (is_object_type r.1.known.structs u ≡ true)) a → Said (IsIntroduced c) (next (by a r.1) (λ u b. Ok (introduced (variable name depth u (lean.Local n)) (stmt.Init n r.0 ∷ []), set_local n u b)))
    ruled (Ok u) h = (place_of_object r.1.known.structs u h.1, tt)
    ruled (Err f) h = tt
local_said c name depth n at t (Err f) = tt

local_says : (c : Around) (name : List ℕ) (depth n at : ℕ) (t : PlainType) (w : Walk Body TypedInit) → Says (IsIntroduced c) (local_init name depth n at t w)
local_says c name depth n at t w = record { said = local_said c name depth n at t w }

automatic_says : (c : Around) (env : Env) (line : ℕ) (base : PlainType) (o : ObjTree) (b : Body) → Says (IsIntroduced c) (check_automatic env line base o b)
automatic_says c env line base (declarator.Bare stars name at ds) b =
    says_after (in_body b (check_lengths env [] ds b.known)) (λ ns b1.
    says_rule (variable_rule b1.known.structs env false name (declarator_type base stars ns) at) b1 (variable_fine b1.known.structs env false name (declarator_type base stars ns) at) (λ t b2 h.
    says_ok {a = introduced (variable name env.depth t (lean.Local (length b.locals))) []} {s = with_local (named name line) t b2} (h.0.0, tt)))
automatic_says c env line base (declarator.Initial stars name at ds i) b =
    says_after (in_body b (check_lengths env [] ds b.known)) (λ ns b1.
    says_after (by (variable_rule b1.known.structs env true name (declarator_type base stars ns) at) b1) (λ t b2.
    local_says c name env.depth (length b.locals) at t (in_body (with_local (named name line) t b2) (check_init (declaring env (variable name env.depth t (lean.Local (length b.locals)))) false (Some t) i b2.known))))

object_says : (c : Around) (env : Env) (fixed : Bool) (line : ℕ) (base : PlainType) (o : ObjTree) (b : Body) → Says (IsIntroduced c) (check_object env fixed line base o b)
object_says c env true line base o b =
    says_next (says_inside with_known b (static_says c env line base o b.known)) (λ d b1 h. says_ok {a = introduced d []} {s = b1} h.0)
object_says c env false line base o b = automatic_says c env line base o b

objects_say : (c : Around) (bodies : List (List ℕ)) (env : Env) → IsRightEnv c bodies env → (fixed : Bool) (line : ℕ) (base : PlainType) (done : List TypedStmt) (os : ObjTrees) (b : Body) → Says (λ e. IsRightEnv c bodies e.env) (check_objects env fixed line base done os b)
objects_say c bodies env ok fixed line base done declarators.NoDeclarators b = says_ok {a = record { env = env; statements = done }} {s = b} ok
objects_say c bodies env ok fixed line base done (declarators.Declarator o os) b =
    says_next (object_says c env fixed line base o b) (λ i b1 h.
    objects_say c bodies (declaring env i.declared) (right_declaring c bodies env i.declared h ok) fixed line base (done ++ i.statements) os b1)

pub declaration_says : (c : Around) (bodies : List (List ℕ)) (env : Env) → IsRightEnv c bodies env → (d : LocalTree) (b : Body) → Says (λ e. IsRightEnv c bodies e.env) (check_declaration env d b)
declaration_says c bodies env ok d b =
    says_after (in_body b (base_type env d.spec d.names b.known)) (λ t b1. objects_say c bodies env ok d.fixed d.line t [] d.names b1)

-- ---- what stands in declarations

valid_names : (s : SpecTree) (os : ObjTrees) → ValidNames s os → ValidObjs os
valid_names s declarators.NoDeclarators v = tt
valid_names s (declarators.Declarator o os) v = v

module _ (c : Around) (bodies : List (List ℕ)) (result : PlainType) (locals : List PlainType) where
  -- the statements that initialise the objects
  abbrev pub Initialises : Introduced → Type 0
  Initialises i = AreStmts c result locals i.statements

  -- ---- automatic objects

  one_moves : (b : Body) (name : VarName) (t : PlainType) → BodyMoves b (with_local name t b)
  one_moves b name t = record { known = moves_same b.known; locals = keeps_one b.locals t }

  last_moves : (b : Body) (name : VarName) (t u : PlainType) (k : Known) → Moves b.known k → BodyMoves b (set_local (length b.locals) u (with_known k (with_local name t b)))
  last_moves b name t u k m = record { known = m; locals = keeps_last b.locals t u }

  initialised : (name : List ℕ) (depth at : ℕ) (v : VarName) (t : PlainType) (b : Body) (x : TypedInit) (k : Known) (a : Answer PlainType) → Moves b.known k → (AreSound b.known.structs → Leads c bodies k → IsTypedInit c t x) → Fine (λ u. (u ≡ completed t x) × (is_object_type k.structs u ≡ true)) a → BodyGivesIn c bodies locals Initialises b (next (by a (with_known k (with_local v t b))) (λ u d. Ok (introduced (variable name depth u (lean.Local (length b.locals))) (stmt.Init (length b.locals) x ∷ []), set_local (length b.locals) u d)))
  initialised name depth at v t b x k (Ok u) m typed h = (
    last_moves b v t u k m,
    λ sound leads.
        ((u, leads.kept.each (length b.locals) u (last_set b.locals t u), subst (λ w. IsTypedInit c w x) (sym h.0) (completed_typed c bodies t x (typed sound (record { grows = leads.known.grows; called = leads.known.called })))), tt),
  )
  initialised name depth at v t b x k (Err f) m typed h = tt

  local_in : (name : List ℕ) (depth at : ℕ) (v : VarName) (t : PlainType) (b : Body) (w : Walk Known TypedInit) → GivesIn c bodies (IsTypedInit c t) b.known w → BodyGivesIn c bodies locals Initialises b (local_init name depth (length b.locals) at t (in_body (with_local v t b) w))
  local_in name depth at v t b (Ok r) h =
      initialised name depth at v t b r.0 r.1 (object_type r.1.structs (completed t r.0) at) h.0 h.1 (object_fine r.1.structs (completed t r.0) at)
  local_in name depth at v t b (Err f) h = tt

  local_gives : (name : List ℕ) (depth at : ℕ) (v : VarName) (t : PlainType) {b : Body} {w : Walk Known TypedInit} → Gives c bodies (IsTypedInit c t) b.known w → BodyGives c bodies locals Initialises b (local_init name depth (length b.locals) at t (in_body (with_local v t b) w))
  local_gives name depth at v t {b = b} {w = w} h = record { each = local_in name depth at v t b w h.each }

  automatic_gives : (env : Env) → IsRightEnv c bodies env → (line : ℕ) (base : PlainType) (o : ObjTree) → ValidObj o → (b : Body) → BodyGives c bodies locals Initialises b (check_automatic env line base o b)
  automatic_gives env ok line base (declarator.Bare stars name at ds) v b =
      body_in_next c bodies locals _ (lengths_give c bodies env ok [] ds v.1 b.known) (λ ns k.
      body_rule c bodies locals (variable_rule k.structs env false name (declarator_type base stars ns) at) _ (variable_fine k.structs env false name (declarator_type base stars ns) at) (λ t h.
      body_moved c bodies locals (one_moves (with_known k b) (named name line) t) (λ sound leads any. tt)))
  automatic_gives env ok line base (declarator.Initial stars name at ds i) v b =
      body_in_next c bodies locals _ (open_lengths_give c bodies env ok [] ds v.1 b.known) (λ ns k.
      body_rule c bodies locals (variable_rule k.structs env true name (declarator_type base stars ns) at) _ (variable_fine k.structs env true name (declarator_type base stars ns) at) (λ t h.
      let d = variable name env.depth t (lean.Local (length b.locals)) in
      body_map c bodies locals (λ all made any. made)
      (local_gives name env.depth at (named name line) t {b = with_known k b}
      (init_gives c bodies (declaring env d) (right_declaring c bodies env d (h.0.0, tt) ok) false (Some t) i v.2 k h.0.1))))

  object_gives : (env : Env) → IsRightEnv c bodies env → (fixed : Bool) (line : ℕ) (base : PlainType) (o : ObjTree) → ValidObj o → (b : Body) → BodyGives c bodies locals Initialises b (check_object env fixed line base o b)
  object_gives env ok true line base o v b =
      body_next c bodies locals (body_in c bodies locals (static_gives c bodies env ok line base o v b.known)) (λ d b1. body_ok c bodies locals (λ any. tt))
  object_gives env ok false line base o v b = automatic_gives env ok line base o v b

  -- ---- declarations

  objects_give : (env : Env) → IsRightEnv c bodies env → (fixed : Bool) (line : ℕ) (base : PlainType) (done : List TypedStmt) (os : ObjTrees) → ValidObjs os → (b : Body) → BodyGives c bodies locals (λ e. AreStmts c result locals done → AreStmts c result locals e.statements) b (check_objects env fixed line base done os b)
  objects_give env ok fixed line base done declarators.NoDeclarators v b = body_ok c bodies locals (λ h. h)
  objects_give env ok fixed line base done (declarators.Declarator o os) v b =
      body_step c bodies locals (check_object env fixed line base o b) (object_gives env ok fixed line base o v.0 b) (object_says c env fixed line base o b) (λ i b1 placed.
      body_map c bodies locals (λ e all made before. all (stmts_more c result locals done i.statements before made))
      (objects_give (declaring env i.declared) (right_declaring c bodies env i.declared placed ok) fixed line base (done ++ i.statements) os v.1 b1))

  base_gives : (env : Env) → IsRightEnv c bodies env → (s : SpecTree) → ValidSpec s → (os : ObjTrees) (k : Known) → Gives c bodies {A = PlainType} Any k (base_type env s os k)
  base_gives env ok s v declarators.NoDeclarators k = alone_gives c bodies env ok s v k
  base_gives env ok s v (declarators.Declarator o os) k = spec_gives c bodies env ok s v k

  pub declaration_gives : (env : Env) → IsRightEnv c bodies env → (d : LocalTree) → ValidLocal d → (b : Body) → BodyGives c bodies locals (λ e. AreStmts c result locals e.statements) b (check_declaration env d b)
  declaration_gives env ok d v b =
      body_next c bodies locals (body_in c bodies locals (base_gives env ok d.spec v.0 d.names b.known)) (λ t b1.
      body_map c bodies locals (λ e all any. all tt) (objects_give env ok d.fixed d.line t [] d.names (valid_names d.spec d.names v.1) b1))
