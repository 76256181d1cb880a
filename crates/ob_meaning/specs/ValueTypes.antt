-- Which values the expressions of a typed program give (C99 6.2.5): a number of its type where an expression has an integer type,
-- null or a pointer where it has a pointer type. This holds of a program whose nodes have the types that are given below for
-- their parts, as far as values depend on them; typing (6.5) asks more.
use Rattle.std.specs.Prelude.{◌≡◌, ℕ, ◌+◌, List, [], ◌∷◌, All, Option, Some, None, slice_index_or}
use Rattle.ob_words.specs.declared.types.IntType.{IntType}
use Rattle.ob_words.specs.declared.types.IntType.TheVariants as type
use Rattle.ob_words.specs.Types.{IsNumber}
use Rattle.ob_model.specs.declared.values.Value.{Value}
use Rattle.ob_model.specs.declared.values.Value.TheVariants as value
use Rattle.ob_tree.specs.Types.{PlainType}
use Rattle.ob_tree.specs.Types.PlainType.{Void, Int, Pointer, Array, Struct}
use Rattle.ob_typed.specs.declared.names.Builtin.{Builtin}
use Rattle.ob_typed.specs.declared.names.Builtin.TheVariants as builtin
use Rattle.ob_typed.specs.TypedTree.{TypedExpr, TypedExprs, TypedFunction, TypedInit, TypedInits, TypedLean, TypedNode, TypedStmt, TypedStmts}
use Rattle.ob_typed.specs.TypedTree.TypedExpr.{Typed}
use Rattle.ob_typed.specs.TypedTree.{TypedExprs as exprs, TypedLean as at, TypedNode as node, TypedInit as init, TypedInits as inits, TypedStmt as stmt, TypedStmts as stmts}
use Rattle.ob_typed.specs.TypedTree.TypedPlace.{Place}
use Rattle.ob_model.specs.Cells.{Content as cell}
use Rattle.ob_meaning.specs.Calls.{below}
use Rattle.ob_meaning.specs.Expressions.{value as value_in}
use Rattle.ob_meaning.specs.Runs.{first_world}
use Rattle.ob_meaning.specs.Scalars.{part_of}
use Rattle.ob_meaning.specs.Setup.{Setup, expression_type, function_at, number_type}
use Rattle.ob_meaning.specs.Values.{Cell}
use Rattle.ob_meaning.specs.World.{Call, Run, World, stop, go}

-- what a type's values are
pub data Class : Type 0 where
  number : (t : IntType) → Class
  pointer : Class
  none : Class

abbrev pub class_of : PlainType → Class
class_of (Int t) = number t
class_of (Pointer t) = pointer
class_of Void = none
class_of (Array t n) = none
class_of (Struct n) = none

abbrev pub HasClass : Class → Value → Type 0
HasClass (number t) (value.Num n) = IsNumber t n
HasClass (number t) value.Null = ⊥
HasClass (number t) (value.Ptr object offset) = ⊥
HasClass pointer (value.Num n) = ⊥
HasClass pointer value.Null = Unit {0}
HasClass pointer (value.Ptr object offset) = Unit {0}
HasClass none v = Unit {0}

-- a number or a pointer
abbrev pub IsScalar : Class → Type 0
IsScalar (number t) = Unit {0}
IsScalar pointer = Unit {0}
IsScalar none = ⊥

abbrev pub class_of_expression : TypedExpr → Class
class_of_expression e = class_of (expression_type e)

abbrev pub builtin_class : Builtin → Class
builtin_class builtin.GetChar = number type.Int
builtin_class builtin.PutChar = number type.Int
builtin_class builtin.Malloc = pointer
builtin_class builtin.Calloc = pointer
builtin_class builtin.Free = none
builtin_class builtin.Exit = none

-- ---- expressions

abbrev mutual
  pub IsTyped : Setup → TypedExpr → Type 0
  IsTyped u (Typed line ty what) = IsTypedNode u (class_of ty) what

  pub IsTypedNode : Setup → Class → TypedNode → Type 0
  IsTypedNode u c (node.Num n) = HasClass c (value.Num n) × IsScalar c
  IsTypedNode u c node.Null = c ≡ pointer
  IsTypedNode u c (node.Read (Place line ty lean)) = (class_of ty ≡ c) × IsTypedLean u lean
  IsTypedNode u c (node.Lean lean) = (c ≡ pointer) × IsTypedLean u lean
  IsTypedNode u c (node.Convert t e) = (c ≡ number t) × IsTyped u e
  IsTypedNode u c (node.ToVoid e) = (c ≡ none) × IsTyped u e
  IsTypedNode u c (node.Arith op t a b) = (c ≡ number t) × IsTyped u a × IsTyped u b
  IsTypedNode u c (node.Compare r a b) = (c ≡ number type.Int) × IsTyped u a × IsTyped u b
  IsTypedNode u c (node.PtrCompare r a b) = (c ≡ number type.Int) × IsTyped u a × IsTyped u b
  IsTypedNode u c (node.PtrDiff size a b) = (c ≡ number type.Long) × IsTyped u a × IsTyped u b
  IsTypedNode u c (node.And a b) = (c ≡ number type.Int) × IsTyped u a × IsTyped u b
  IsTypedNode u c (node.Or a b) = (c ≡ number type.Int) × IsTyped u a × IsTyped u b
  IsTypedNode u c (node.Cond a b d) =
      (class_of_expression b ≡ c) × (class_of_expression d ≡ c) × IsTyped u a × IsTyped u b × IsTyped u d
  IsTypedNode u c (node.Comma a b) = (class_of_expression b ≡ c) × IsTyped u a × IsTyped u b
  IsTypedNode u c (node.Assign (Place line ty lean) e) =
      (class_of ty ≡ c) × (class_of_expression e ≡ c) × IsScalar c × IsTypedLean u lean × IsTyped u e
  IsTypedNode u c (node.Update op t post (Place line ty lean) e) =
      (class_of ty ≡ c) × (c ≡ number (number_type ty)) × IsTypedLean u lean × IsTyped u e
  IsTypedNode u c (node.PtrUpdate scale minus post (Place line ty lean) e) =
      (class_of ty ≡ c) × (c ≡ pointer) × IsTypedLean u lean × IsTyped u e
  IsTypedNode u c (node.CopyStruct (Place line ty lean) (Place from_line from_type from_lean)) =
      (c ≡ none) × IsTypedLean u lean × IsTypedLean u from_lean
  IsTypedNode u c (node.Call f es) =
      (class_of (function_at u f).result ≡ c) × AreArguments u (function_at u f).locals es
  IsTypedNode u c (node.CallBuiltin b es) = (c ≡ builtin_class b) × AreTyped u es

  pub IsTypedLean : Setup → TypedLean → Type 0
  IsTypedLean u (at.Static i) = Unit {0}
  IsTypedLean u (at.Local i) = Unit {0}
  IsTypedLean u (at.Value e) = IsTyped u e
  IsTypedLean u (at.Slide lean scale minus number_first e) = IsTypedLean u lean × IsTyped u e
  IsTypedLean u (at.Member lean offset) = IsTypedLean u lean

  pub AreTyped : Setup → TypedExprs → Type 0
  AreTyped u exprs.NoArguments = Unit {0}
  AreTyped u (exprs.Argument e es) = IsTyped u e × AreTyped u es

  -- arguments for the first of these objects
  pub AreArguments : Setup → List PlainType → TypedExprs → Type 0
  AreArguments u ts exprs.NoArguments = Unit {0}
  AreArguments u [] (exprs.Argument e es) = ⊥
  AreArguments u (t ∷ ts) (exprs.Argument e es) =
      (class_of_expression e ≡ class_of t) × IsScalar (class_of t) × IsTyped u e × AreArguments u ts es

-- ---- initialisers

-- the class of what the characters of a string are stored as
abbrev pub IsNumberClass : Class → Type 0
IsNumberClass (number t) = Unit {0}
IsNumberClass pointer = ⊥
IsNumberClass none = ⊥

abbrev mutual
  pub IsTypedInit : Setup → PlainType → TypedInit → Type 0
  IsTypedInit u ty (init.Value e) = (class_of_expression e ≡ class_of ty) × IsScalar (class_of ty) × IsTyped u e
  IsTypedInit u ty (init.Chars cs) = IsNumberClass (class_of (part_of u.program.structs ty 0).ty)
  IsTypedInit u ty (init.Items items) = AreTypedItems u ty items 0
  IsTypedInit u ty (init.Copy (Place line t lean)) = IsTypedLean u lean

  pub AreTypedItems : Setup → PlainType → TypedInits → ℕ → Type 0
  AreTypedItems u ty inits.NoItems i = Unit {0}
  AreTypedItems u ty (inits.Item head tail) i =
      IsTypedInit u (part_of u.program.structs ty i).ty head × AreTypedItems u ty tail (i + 1)

-- ---- statements of a function

abbrev pub IsTypedOption : Setup → Option TypedExpr → Type 0
IsTypedOption u None = Unit {0}
IsTypedOption u (Some e) = IsTyped u e

-- a value that is returned has the function's class, and only a function without a value returns none
abbrev pub IsTypedReturn : Setup → Class → Option TypedExpr → Type 0
IsTypedReturn u c None = c ≡ none
IsTypedReturn u c (Some e) = (class_of_expression e ≡ c) × IsTyped u e

abbrev mutual
  pub IsTypedStmt : Setup → TypedFunction → TypedStmt → Type 0
  IsTypedStmt u f stmt.Empty = Unit {0}
  IsTypedStmt u f (stmt.Expr e) = IsTyped u e
  IsTypedStmt u f (stmt.Block ss) = AreTypedStmts u f ss
  IsTypedStmt u f (stmt.Init i item) = IsTypedInit u (slice_index_or f.locals i Void) item
  IsTypedStmt u f (stmt.If e s) = IsTyped u e × IsTypedStmt u f s
  IsTypedStmt u f (stmt.IfElse e s t) = IsTyped u e × IsTypedStmt u f s × IsTypedStmt u f t
  IsTypedStmt u f (stmt.While e s) = IsTyped u e × IsTypedStmt u f s
  IsTypedStmt u f (stmt.Do s e) = IsTypedStmt u f s × IsTyped u e
  IsTypedStmt u f (stmt.For start test after s) =
      AreTypedStmts u f start × IsTypedOption u test × IsTypedOption u after × IsTypedStmt u f s
  IsTypedStmt u f stmt.Break = Unit {0}
  IsTypedStmt u f stmt.Continue = Unit {0}
  IsTypedStmt u f (stmt.Return e) = IsTypedReturn u (class_of f.result) e

  pub AreTypedStmts : Setup → TypedFunction → TypedStmts → Type 0
  AreTypedStmts u f stmts.NoStmts = Unit {0}
  AreTypedStmts u f (stmts.Stmt head tail) = IsTypedStmt u f head × AreTypedStmts u f tail

-- each function's body is typed
abbrev pub IsTypedProgram : Setup → Type 0
IsTypedProgram u = (f : ℕ) → IsTypedStmt u (function_at u f) (function_at u f).body

-- ---- worlds

-- a granule's pointer is null or a pointer
abbrev pub HoldsPointers : Cell → Type 0
HoldsPointers (cell.pointer p) = HasClass pointer p
HoldsPointers (cell.bytes es) = Unit {0}

-- the granules hold pointers, and these calls are in progress
abbrev pub IsTypedWorld : List Call → World → Type 0
IsTypedWorld calls w =
    All (λ o. All HoldsPointers o.own) w.objects
    × All (λ e. HoldsPointers e.cell) w.outside
    × (w.calls ≡ calls)

-- an act that goes on gives what is meant, and leaves the world so
abbrev pub GivesIn : {A : Type 0} → List Call → (A → Type 0) → Run A → Type 0
GivesIn {A} calls P (go a w) = P a × IsTypedWorld calls w
GivesIn {A} calls P (stop finish w) = Unit {0}

-- each expression of a typed program gives a value of its type
abbrev pub ValuesHaveTypes : Type 0
ValuesHaveTypes =
    (u : Setup) (depth : ℕ) (calls : List Call) (e : TypedExpr) (w : World) →
    IsTypedProgram u →
    IsTyped u e →
    IsTypedWorld calls w →
    GivesIn calls (HasClass (class_of_expression e)) (value_in u (below u depth) e w)

-- and so does each call, of arguments that have the types of its parameters
abbrev pub AreValues : List PlainType → List Value → Type 0
AreValues ts [] = Unit {0}
AreValues [] (v ∷ vs) = ⊥
AreValues (t ∷ ts) (v ∷ vs) = HasClass (class_of t) v × IsScalar (class_of t) × AreValues ts vs

abbrev pub CallsHaveTypes : Type 0
CallsHaveTypes =
    (u : Setup) (depth f : ℕ) (calls : List Call) (arguments : List Value) (w : World) →
    IsTypedProgram u →
    AreValues (function_at u f).locals arguments →
    IsTypedWorld calls w →
    GivesIn calls (HasClass (class_of (function_at u f).result)) ((below u depth).call f arguments w)

-- a run begins in such a world
abbrev pub RunsBeginTyped : Type 0
RunsBeginTyped =
    (u : Setup) (place : ℕ) (input : List ℕ) (steps : ℕ) →
    IsTypedWorld [] (first_world u place input steps)
