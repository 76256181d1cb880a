-- Where the variables of a function are. A variable is plain where it is a number or a pointer whose address is never taken:
-- whatever names it reads or assigns it, as a value of its own type. A plain variable has a word of the frame for the whole call.
-- Any other variable has bytes of the frame, and a row among the function's locals.
use Rattle.std.specs.Prelude.{ℕ, Bool, true, false, not, ◌&&◌, ◌||◌, ◌==◌, Option, Some, None}
use Rattle.ob_tree.specs.Types.{PlainType}
use Rattle.ob_typed.specs.TypedTree.{TypedExpr, TypedExprs, TypedInit, TypedInits, TypedLean, TypedNode, TypedPlace, TypedStmt, TypedStmts}
use Rattle.ob_typed.specs.TypedTree.TypedExpr.{Typed}
use Rattle.ob_typed.specs.TypedTree.TypedPlace.{Place}
use Rattle.ob_typed.specs.TypedTree.{TypedExprs as exprs, TypedInit as init, TypedInits as inits, TypedLean as at, TypedNode as node, TypedStmt as stmt, TypedStmts as stmts}
use Rattle.ob_typed.specs.TypeTests.{same_type}

-- ---- a variable that is more than read and assigned: something in the tree names it otherwise, as a type t

abbrev mutual
  pub exposes : ℕ → PlainType → TypedExpr → Bool
  exposes v t (Typed line ty what) = exposes_in_node v t what

  -- a place that is read or assigned
  pub exposes_in_place : ℕ → PlainType → TypedPlace → Bool
  exposes_in_place v t (Place line ty (at.Local n)) = n == v && not (same_type ty t)
  exposes_in_place v t (Place line ty lean) = exposes_in_lean v t lean

  pub exposes_in_lean : ℕ → PlainType → TypedLean → Bool
  exposes_in_lean v t (at.Static n) = false
  exposes_in_lean v t (at.Local n) = n == v
  exposes_in_lean v t (at.Value e) = exposes v t e
  exposes_in_lean v t (at.Slide lean scale minus number_first e) = exposes_in_lean v t lean || exposes v t e
  exposes_in_lean v t (at.Member lean offset) = exposes_in_lean v t lean

  pub exposes_in_node : ℕ → PlainType → TypedNode → Bool
  exposes_in_node v t (node.Num n) = false
  exposes_in_node v t node.Null = false
  exposes_in_node v t (node.Read p) = exposes_in_place v t p
  exposes_in_node v t (node.Lean lean) = exposes_in_lean v t lean
  exposes_in_node v t (node.Convert k e) = exposes v t e
  exposes_in_node v t (node.ToVoid e) = exposes v t e
  exposes_in_node v t (node.Arith op k a b) = exposes v t a || exposes v t b
  exposes_in_node v t (node.Compare r a b) = exposes v t a || exposes v t b
  exposes_in_node v t (node.PtrCompare r a b) = exposes v t a || exposes v t b
  exposes_in_node v t (node.PtrDiff size a b) = exposes v t a || exposes v t b
  exposes_in_node v t (node.And a b) = exposes v t a || exposes v t b
  exposes_in_node v t (node.Or a b) = exposes v t a || exposes v t b
  exposes_in_node v t (node.Cond a b c) = exposes v t a || (exposes v t b || exposes v t c)
  exposes_in_node v t (node.Comma a b) = exposes v t a || exposes v t b
  exposes_in_node v t (node.Assign p e) = exposes_in_place v t p || exposes v t e
  exposes_in_node v t (node.Update op k post p e) = exposes_in_place v t p || exposes v t e
  exposes_in_node v t (node.PtrUpdate scale minus post p e) = exposes_in_place v t p || exposes v t e
  exposes_in_node v t (node.CopyStruct (Place line ty to) (Place from_line from_ty from)) = exposes_in_lean v t to || exposes_in_lean v t from
  exposes_in_node v t (node.Call f es) = exposes_in_arguments v t es
  exposes_in_node v t (node.CallBuiltin b es) = exposes_in_arguments v t es

  pub exposes_in_arguments : ℕ → PlainType → TypedExprs → Bool
  exposes_in_arguments v t exprs.NoArguments = false
  exposes_in_arguments v t (exprs.Argument e es) = exposes v t e || exposes_in_arguments v t es

abbrev pub exposes_in_option : ℕ → PlainType → Option TypedExpr → Bool
exposes_in_option v t None = false
exposes_in_option v t (Some e) = exposes v t e

abbrev mutual
  pub exposes_in_init : ℕ → PlainType → TypedInit → Bool
  exposes_in_init v t (init.Value e) = exposes v t e
  exposes_in_init v t (init.Chars bytes) = false
  exposes_in_init v t (init.Items is) = exposes_in_items v t is
  exposes_in_init v t (init.Copy (Place line ty from)) = exposes_in_lean v t from

  pub exposes_in_items : ℕ → PlainType → TypedInits → Bool
  exposes_in_items v t inits.NoItems = false
  exposes_in_items v t (inits.Item i is) = exposes_in_init v t i || exposes_in_items v t is

-- An array or a structure may be named by its own initialiser: as the whole that it is copied from, or as a pointer among its items.
-- By that alone it isn't exposed, since its bytes are seen only through another name.
abbrev pub exposes_further : ℕ → PlainType → TypedLean → Bool
exposes_further v t (at.Local n) = false
exposes_further v t (at.Static n) = false
exposes_further v t (at.Value e) = exposes v t e
exposes_further v t (at.Slide lean scale minus number_first e) = exposes_in_lean v t lean || exposes v t e
exposes_further v t (at.Member lean offset) = exposes_in_lean v t lean

abbrev pub exposes_as_item : ℕ → PlainType → TypedNode → Bool
exposes_as_item v t (node.Lean lean) = exposes_further v t lean
exposes_as_item v t what = exposes_in_node v t what

abbrev mutual
  pub exposes_in_own_item : ℕ → PlainType → TypedInit → Bool
  exposes_in_own_item v t (init.Value (Typed line ty what)) = exposes_as_item v t what
  exposes_in_own_item v t (init.Chars bytes) = false
  exposes_in_own_item v t (init.Items is) = exposes_in_own_items v t is
  exposes_in_own_item v t (init.Copy (Place line ty from)) = exposes_in_lean v t from

  pub exposes_in_own_items : ℕ → PlainType → TypedInits → Bool
  exposes_in_own_items v t inits.NoItems = false
  exposes_in_own_items v t (inits.Item i is) = exposes_in_own_item v t i || exposes_in_own_items v t is

abbrev pub exposes_in_own : ℕ → PlainType → TypedInit → Bool
exposes_in_own v t (init.Value e) = exposes v t e
exposes_in_own v t (init.Chars bytes) = false
exposes_in_own v t (init.Items is) = exposes_in_own_items v t is
exposes_in_own v t (init.Copy (Place line ty from)) = exposes_further v t from

abbrev pub exposes_in_start : Bool → ℕ → PlainType → TypedInit → Bool
exposes_in_start true v t i = exposes_in_own v t i
exposes_in_start false v t i = exposes_in_init v t i

abbrev mutual
  pub exposes_in_stmt : ℕ → PlainType → TypedStmt → Bool
  exposes_in_stmt v t stmt.Empty = false
  exposes_in_stmt v t (stmt.Expr e) = exposes v t e
  exposes_in_stmt v t (stmt.Block ss) = exposes_in_stmts v t ss
  exposes_in_stmt v t (stmt.Init n i) = exposes_in_start (n == v) v t i
  exposes_in_stmt v t (stmt.If e s) = exposes v t e || exposes_in_stmt v t s
  exposes_in_stmt v t (stmt.IfElse e s other) = exposes v t e || (exposes_in_stmt v t s || exposes_in_stmt v t other)
  exposes_in_stmt v t (stmt.While e s) = exposes v t e || exposes_in_stmt v t s
  exposes_in_stmt v t (stmt.Do s e) = exposes_in_stmt v t s || exposes v t e
  exposes_in_stmt v t (stmt.For start test next s) =
      exposes_in_stmts v t start || (exposes_in_option v t test || (exposes_in_option v t next || exposes_in_stmt v t s))
  exposes_in_stmt v t stmt.Break = false
  exposes_in_stmt v t stmt.Continue = false
  exposes_in_stmt v t (stmt.Return e) = exposes_in_option v t e

  pub exposes_in_stmts : ℕ → PlainType → TypedStmts → Bool
  exposes_in_stmts v t stmts.NoStmts = false
  exposes_in_stmts v t (stmts.Stmt s ss) = exposes_in_stmt v t s || exposes_in_stmts v t ss
