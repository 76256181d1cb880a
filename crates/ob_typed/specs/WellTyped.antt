-- Typed trees by themselves: each node of an expression has the type that the rules of C99 6.5 give it for its parts, and
-- each constant is a number of its type. A conversion between two pointer types changes the type of a node alone
-- (6.3.2.3), so where a node has the type of a part, both may be pointers that differ.
use Rattle.std.specs.Prelude.{◌≡◌, ◌≤◌, ℕ, ◌+◌, ℤ, Bool, true, false, IsTrue, if◌then◌else◌, Option, Some, None, List, [], ◌∷◌, length, slice_get, take}
use Rattle.ob_words.specs.declared.types.IntType.{IntType}
use Rattle.ob_words.specs.declared.types.IntType.TheVariants.{Int, Long}
use Rattle.ob_words.specs.declared.types.BinOp.{BinOp}
use Rattle.ob_words.specs.Types.{IsNumber, common, promote}
use Rattle.ob_words.specs.Operators.{shifts}
use Rattle.ob_tree.specs.Parts.{Part, part}
use Rattle.ob_tree.specs.Sizes.{most_bytes, size}
use Rattle.ob_tree.specs.Types.{PlainType, PlainStructs}
use Rattle.ob_tree.specs.Types.{PlainType as type}
use Rattle.ob_typed.specs.Completeness.{is_object_type}
use Rattle.ob_typed.specs.TypedTree.{TypedExpr, TypedExprs, TypedPlace, TypedLean, TypedNode, TypedInit, TypedInits, TypedStmt, TypedStmts, TypedFunction, TypedProgram}
use Rattle.ob_typed.specs.TypedTree.{TypedExpr as expr, TypedExprs as exprs, TypedPlace as place, TypedLean as lean, TypedNode as node, TypedInit as init, TypedInits as inits, TypedStmt as stmt, TypedStmts as stmts}
use Rattle.ob_typed.specs.Conversions.{value_type}
use Rattle.ob_typed.specs.BinaryRules.{computed_in}
use Rattle.ob_typed.specs.Initialisers.{fits_length}
use Rattle.ob_typed.specs.TypeTests.{is_char}
use Rattle.ob_typed.specs.PostfixRules.{builtin_params, builtin_result}

-- the structures and the functions that expressions speak of by their numbers
pub record Around : Type 0 where
  pub structs : PlainStructs
  pub functions : List TypedFunction

abbrev pub IsInt : PlainType → Type 0
IsInt (type.Int k) = Unit {0}
IsInt _ = ⊥

abbrev pub IsPointer : PlainType → Type 0
IsPointer (type.Pointer t) = Unit {0}
IsPointer _ = ⊥

abbrev pub IsScalar : PlainType → Type 0
IsScalar (type.Int k) = Unit {0}
IsScalar (type.Pointer t) = Unit {0}
IsScalar _ = ⊥

-- what lies at a place is a number, a pointer or a structure
abbrev pub IsStored : PlainType → Type 0
IsStored (type.Struct n) = Unit {0}
IsStored t = IsScalar t

-- one type, or two pointer types
abbrev pub Agrees : PlainType → PlainType → Type 0
Agrees (type.Pointer t) (type.Pointer u) = Unit {0}
Agrees t u = t ≡ u

abbrev pub IsNumberOf : PlainType → ℤ → Type 0
IsNumberOf (type.Int k) z = IsNumber k z
IsNumberOf _ z = ⊥

abbrev pub place_type : TypedPlace → PlainType
place_type (place.Place line t l) = t

-- a type that the integer promotions leave as it is (6.3.1.1)
abbrev pub IsPromoted : IntType → Type 0
IsPromoted k = promote k ≡ k

-- both are of one promoted type (6.3.1.8)
abbrev pub AreNumbers : PlainType → PlainType → Type 0
AreNumbers t u = (k : IntType) × IsPromoted k × (t ≡ type.Int k) × (u ≡ type.Int k)

-- the right operand of an operator in type k; that of a shift is promoted for itself (6.5.7)
abbrev pub IsRightIn : (shift : Bool) → IntType → PlainType → Type 0
IsRightIn true k u = (j : IntType) × IsPromoted j × (u ≡ type.Int j)
IsRightIn false k u = u ≡ type.Int k

abbrev pub IsRight : BinOp → IntType → PlainType → Type 0
IsRight op k u = IsRightIn (shifts op) k u

-- the type of a right operand that is added to a number of type a, where it was of type b
abbrev pub right_in : BinOp → (a b : IntType) → IntType
right_in op a b = if shifts op then promote b else common a b

-- a compound assignment to a number of type a, computed in type k, with a value of type u (6.5.16.2)
abbrev pub IsUpdated : BinOp → (a k : IntType) → PlainType → Type 0
IsUpdated op a k u = (b : IntType) × (k ≡ computed_in op a b) × (u ≡ type.Int (right_in op a b))

-- a number of bytes is the size of a type that objects have
abbrev pub IsSizeOf : PlainStructs → PlainType → ℕ → Type 0
IsSizeOf structs t n = IsTrue (is_object_type structs t) × (n ≡ size structs t)

-- a step over elements of a pointer's target (6.5.6)
abbrev pub IsScaleOf : PlainStructs → PlainType → ℕ → Type 0
IsScaleOf structs (type.Pointer t) n = IsSizeOf structs t n
IsScaleOf structs _ n = ⊥

abbrev pub HasResult : Option TypedFunction → PlainType → Type 0
HasResult None t = ⊥
HasResult (Some f) t = Agrees t f.result

abbrev pub params_of : Option TypedFunction → List PlainType
params_of None = []
params_of (Some f) = take f.params f.locals

abbrev mutual
  pub IsWellTyped : Around → TypedExpr → Type 0
  IsWellTyped c (expr.Typed line t n) = IsTypedNode c t n

  pub IsTypedPlace : Around → TypedPlace → Type 0
  IsTypedPlace c (place.Place line t l) = IsStored t × IsTypedLean c l

  pub IsTypedLean : Around → TypedLean → Type 0
  IsTypedLean c (lean.Static n) = Unit {0}
  IsTypedLean c (lean.Local n) = Unit {0}
  IsTypedLean c (lean.Value e) = IsPointer (value_type e) × IsWellTyped c e
  IsTypedLean c (lean.Slide b scale minus number_first e) =
      ((t : PlainType) × IsSizeOf c.structs t scale) × IsTypedLean c b × IsInt (value_type e) × IsWellTyped c e
  IsTypedLean c (lean.Member b offset) = (offset ≤ most_bytes) × IsTypedLean c b

  pub IsTypedNode : Around → PlainType → TypedNode → Type 0
  IsTypedNode c t (node.Num z) = IsNumberOf t z
  IsTypedNode c t node.Null = IsPointer t
  IsTypedNode c t (node.Read p) = IsScalar t × Agrees t (place_type p) × IsTypedPlace c p
  IsTypedNode c t (node.Lean l) = IsPointer t × IsTypedLean c l
  IsTypedNode c t (node.Convert k e) = (t ≡ type.Int k) × IsInt (value_type e) × IsWellTyped c e
  IsTypedNode c t (node.ToVoid e) = (t ≡ type.Void) × IsWellTyped c e
  IsTypedNode c t (node.Arith op k a b) =
      (t ≡ type.Int k) × IsPromoted k × (value_type a ≡ type.Int k) × IsRight op k (value_type b) × IsWellTyped c a × IsWellTyped c b
  IsTypedNode c t (node.Compare r a b) = (t ≡ type.Int Int) × AreNumbers (value_type a) (value_type b) × IsWellTyped c a × IsWellTyped c b
  IsTypedNode c t (node.PtrCompare r a b) =
      (t ≡ type.Int Int) × IsPointer (value_type a) × (value_type a ≡ value_type b) × IsWellTyped c a × IsWellTyped c b
  IsTypedNode c t (node.PtrDiff scale a b) =
      (t ≡ type.Int Long) × IsScaleOf c.structs (value_type a) scale × (value_type a ≡ value_type b) × IsWellTyped c a × IsWellTyped c b
  IsTypedNode c t (node.And a b) =
      (t ≡ type.Int Int) × IsScalar (value_type a) × IsScalar (value_type b) × IsWellTyped c a × IsWellTyped c b
  IsTypedNode c t (node.Or a b) =
      (t ≡ type.Int Int) × IsScalar (value_type a) × IsScalar (value_type b) × IsWellTyped c a × IsWellTyped c b
  IsTypedNode c t (node.Cond z a b) =
      IsScalar t × IsScalar (value_type z) × Agrees t (value_type a) × (value_type a ≡ value_type b) × IsWellTyped c z × IsWellTyped c a × IsWellTyped c b
  IsTypedNode c t (node.Comma a b) = Agrees t (value_type b) × IsWellTyped c a × IsWellTyped c b
  IsTypedNode c t (node.Assign p e) =
      IsScalar t × Agrees t (place_type p) × (value_type e ≡ place_type p) × IsTypedPlace c p × IsWellTyped c e
  IsTypedNode c t (node.Update op k post p e) =
      ((a : IntType) × (t ≡ type.Int a) × IsUpdated op a k (value_type e)) × (t ≡ place_type p) × IsTypedPlace c p × IsWellTyped c e
  IsTypedNode c t (node.PtrUpdate scale minus post p e) =
      IsPointer t × IsScaleOf c.structs (place_type p) scale × IsInt (value_type e) × IsTypedPlace c p × IsWellTyped c e
  IsTypedNode c t (node.CopyStruct to from) =
      (t ≡ type.Void) × ((n : ℕ) × (place_type to ≡ type.Struct n) × IsTrue (is_object_type c.structs (type.Struct n))) × (place_type to ≡ place_type from) × IsTypedPlace c to × IsTypedPlace c from
  IsTypedNode c t (node.Call n es) = HasResult (slice_get c.functions n) t × AreTyped c es (params_of (slice_get c.functions n))
  IsTypedNode c t (node.CallBuiltin b es) = Agrees t (builtin_result b) × AreTyped c es (builtin_params b)

  -- arguments in the types of the parameters (6.5.2.2)
  pub AreTyped : Around → TypedExprs → List PlainType → Type 0
  AreTyped c exprs.NoArguments [] = Unit {0}
  AreTyped c exprs.NoArguments (t ∷ ts) = ⊥
  AreTyped c (exprs.Argument e es) [] = ⊥
  AreTyped c (exprs.Argument e es) (t ∷ ts) = (value_type e ≡ t) × IsWellTyped c e × AreTyped c es ts

-- ---- initialisers (6.7.8)

-- an array of characters, which a string of so many bytes fits
abbrev pub HoldsString : PlainType → (count : ℕ) → Type 0
HoldsString (type.Array (type.Int k) n) count = IsTrue (is_char k) × IsTrue (fits_length n count)
HoldsString _ count = ⊥

abbrev pub IsStruct : PlainType → Type 0
IsStruct (type.Struct n) = Unit {0}
IsStruct _ = ⊥

-- A value has the type of the number or pointer that it is for, an item that of its element or member, and a
-- structure is copied from a place of its type.
abbrev mutual
  pub IsTypedInit : Around → PlainType → TypedInit → Type 0
  IsTypedInit c t (init.Value e) = IsScalar t × (value_type e ≡ t) × IsWellTyped c e
  IsTypedInit c t (init.Chars bytes) = HoldsString t (length bytes)
  IsTypedInit c t (init.Items is) = AreTypedItems c t 0 is
  IsTypedInit c t (init.Copy p) = IsStruct t × (place_type p ≡ t) × IsTypedPlace c p

  -- the items from part i on
  pub AreTypedItems : Around → PlainType → (i : ℕ) → TypedInits → Type 0
  AreTypedItems c t i inits.NoItems = Unit {0}
  AreTypedItems c t i (inits.Item x xs) =
      ((p : Part) × (part c.structs t i ≡ Some p) × IsTypedInit c p.ty x) × AreTypedItems c t (i + 1) xs

-- ---- statements (6.8) of a function whose result and whose automatic objects have these types

abbrev pub IsTypedOption : Around → Option TypedExpr → Type 0
IsTypedOption c None = Unit {0}
IsTypedOption c (Some e) = IsWellTyped c e

-- a controlling expression is a number or a pointer (6.8.4, 6.8.5)
abbrev pub IsTypedTest : Around → TypedExpr → Type 0
IsTypedTest c e = IsScalar (value_type e) × IsWellTyped c e

abbrev pub IsTypedTestOption : Around → Option TypedExpr → Type 0
IsTypedTestOption c None = Unit {0}
IsTypedTestOption c (Some e) = IsTypedTest c e

-- a function gives a value of its type, or none where its type is `void` (6.8.6.4)
abbrev pub IsTypedReturn : Around → (result : PlainType) → Option TypedExpr → Type 0
IsTypedReturn c result None = result ≡ type.Void
IsTypedReturn c result (Some e) = IsScalar result × (value_type e ≡ result) × IsWellTyped c e

abbrev mutual
  pub IsTypedStmt : Around → (result : PlainType) → (locals : List PlainType) → TypedStmt → Type 0
  IsTypedStmt c result locals stmt.Empty = Unit {0}
  IsTypedStmt c result locals (stmt.Expr e) = IsWellTyped c e
  IsTypedStmt c result locals (stmt.Block ss) = AreTypedStmts c result locals ss
  IsTypedStmt c result locals (stmt.Init n i) = (t : PlainType) × (slice_get locals n ≡ Some t) × IsTypedInit c t i
  IsTypedStmt c result locals (stmt.If e s) = IsTypedTest c e × IsTypedStmt c result locals s
  IsTypedStmt c result locals (stmt.IfElse e s other) =
      IsTypedTest c e × IsTypedStmt c result locals s × IsTypedStmt c result locals other
  IsTypedStmt c result locals (stmt.While e s) = IsTypedTest c e × IsTypedStmt c result locals s
  IsTypedStmt c result locals (stmt.Do s e) = IsTypedStmt c result locals s × IsTypedTest c e
  IsTypedStmt c result locals (stmt.For ss test next s) =
      AreTypedStmts c result locals ss × IsTypedTestOption c test × IsTypedOption c next × IsTypedStmt c result locals s
  IsTypedStmt c result locals stmt.Break = Unit {0}
  IsTypedStmt c result locals stmt.Continue = Unit {0}
  IsTypedStmt c result locals (stmt.Return e) = IsTypedReturn c result e

  pub AreTypedStmts : Around → (result : PlainType) → (locals : List PlainType) → TypedStmts → Type 0
  AreTypedStmts c result locals stmts.NoStmts = Unit {0}
  AreTypedStmts c result locals (stmts.Stmt s ss) = IsTypedStmt c result locals s × AreTypedStmts c result locals ss

-- ---- functions (6.9.1)

-- a parameter is a number or a pointer (6.7.5.3)
abbrev pub AreScalars : List PlainType → Type 0
AreScalars [] = Unit {0}
AreScalars (t ∷ ts) = IsScalar t × AreScalars ts

abbrev pub IsTypedFunction : Around → TypedFunction → Type 0
IsTypedFunction c f = AreScalars (take f.params f.locals) × IsTypedStmt c f.result f.locals f.body

abbrev pub AreTypedFunctions : Around → List TypedFunction → Type 0
AreTypedFunctions c [] = Unit {0}
AreTypedFunctions c (f ∷ fs) = IsTypedFunction c f × AreTypedFunctions c fs

abbrev pub around_of : TypedProgram → Around
around_of t = record { structs = t.structs; functions = t.functions }

-- The functions of a program are well typed, with every expression in them. Initialisers of static objects are bytes
-- and pointers, and no expressions.
abbrev pub HasTypedFunctions : TypedProgram → Type 0
HasTypedFunctions t = AreTypedFunctions (around_of t) t.functions
