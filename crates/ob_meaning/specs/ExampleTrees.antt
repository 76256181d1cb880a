-- Parts of which the example programs are built. All of them stand on line 1, unless they are put on another.
use Rattle.std.specs.Prelude.{ℕ, false, true, pos, List, [], ◌∷◌, map}
use Rattle.ob_words.specs.declared.types.BinOp.TheVariants as op
use Rattle.ob_words.specs.declared.types.IntType.TheVariants as type
use Rattle.ob_tree.specs.Types.{PlainType, PlainStructs}
use Rattle.ob_tree.specs.Types.PlainType.{Int, Pointer}
use Rattle.ob_typed.specs.declared.names.Builtin.{Builtin}
use Rattle.ob_typed.specs.declared.names.Builtin.TheVariants as builtin
use Rattle.ob_typed.specs.declared.names.VarName.{VarName}
use Rattle.ob_typed.specs.TypedTree.{TypedExpr, TypedExprs, TypedFunction, TypedLean, TypedNode, TypedObject, TypedPlace, TypedProgram, TypedStmt, TypedStmts}
use Rattle.ob_typed.specs.TypedTree.TypedExpr.{Typed}
use Rattle.ob_typed.specs.TypedTree.TypedExprs.{NoArguments, Argument}
use Rattle.ob_typed.specs.TypedTree.TypedPlace.{Place}
use Rattle.ob_typed.specs.TypedTree.TypedStmts.{NoStmts, Stmt}
use Rattle.ob_typed.specs.TypedTree.{TypedNode as node, TypedLean as at, TypedStmt as stmt}

-- ---- types

abbrev pub int_type : PlainType
int_type = Int type.Int

abbrev pub char_type : PlainType
char_type = Int type.Char

abbrev pub char_pointer : PlainType
char_pointer = Pointer char_type

-- ---- expressions

abbrev pub int : TypedNode → TypedExpr
int what = Typed 1 int_type what

abbrev pub number : ℕ → TypedExpr
number n = int (node.Num (pos n))

-- an `int` where a `char` is wanted, and the other way
abbrev pub as_char : TypedExpr → TypedExpr
as_char e = Typed 1 char_type (node.Convert type.Char e)

abbrev pub as_int : TypedExpr → TypedExpr
as_int e = int (node.Convert type.Int e)

abbrev pub plus : TypedExpr → TypedExpr → TypedExpr
plus a b = int (node.Arith op.Add type.Int a b)

-- '0' + e
abbrev pub digit : TypedExpr → TypedExpr
digit e = plus (number 48) e

-- a place of a type, and its value
abbrev pub place : PlainType → TypedLean → TypedPlace
place ty lean = Place 1 ty lean

abbrev pub read : PlainType → TypedLean → TypedExpr
read ty lean = Typed 1 ty (node.Read (place ty lean))

-- so many bytes of a size further, or back
abbrev pub past : TypedLean → ℕ → ℕ → TypedLean
past lean size n = at.Slide lean size false false (number n)

abbrev pub before : TypedLean → ℕ → ℕ → TypedLean
before lean size n = at.Slide lean size true false (number n)

-- the pointer to a place
abbrev pub pointer_to : PlainType → TypedLean → TypedExpr
pointer_to ty lean = Typed 1 (Pointer ty) (node.Lean lean)

-- element n of a `char` array or of what a local `char` pointer points to
abbrev pub element : ℕ → ℕ → TypedLean
element local n = past (at.Local local) 1 n

abbrev pub pointed : PlainType → ℕ → TypedLean
pointed ty local = at.Value (read (Pointer ty) (at.Local local))

abbrev pub arguments_of : List TypedExpr → TypedExprs
arguments_of [] = NoArguments
arguments_of (e ∷ es) = Argument e (arguments_of es)

abbrev pub built_in_call : PlainType → Builtin → List TypedExpr → TypedExpr
built_in_call ty b es = Typed 1 ty (node.CallBuiltin b (arguments_of es))

-- malloc(n), as a pointer to a type
abbrev pub malloc : PlainType → ℕ → TypedExpr
malloc ty n =
    built_in_call (Pointer ty) builtin.Malloc (Typed 1 (Int type.ULong) (node.Convert type.ULong (number n)) ∷ [])

-- ---- statements

abbrev pub statements_of : List TypedStmt → TypedStmts
statements_of [] = NoStmts
statements_of (s ∷ ss) = Stmt s (statements_of ss)

abbrev pub set : PlainType → TypedLean → TypedExpr → TypedStmt
set ty lean e = stmt.Expr (Typed 1 ty (node.Assign (place ty lean) e))

-- putchar(e);
abbrev pub put : TypedExpr → TypedStmt
put e = stmt.Expr (built_in_call int_type builtin.PutChar (e ∷ []))

-- putchar('0' + the `char` at a place);
abbrev pub put_digit : TypedLean → TypedStmt
put_digit lean = put (digit (as_int (read char_type lean)))

abbrev pub free_local : ℕ → TypedStmt
free_local local =
    stmt.Expr (built_in_call PlainType.Void builtin.Free (Typed 1 (Pointer PlainType.Void) (node.Read (place char_pointer (at.Local local))) ∷ []))

-- ---- programs

abbrev pub no_name : VarName
no_name = record { name = []; line = 1 }

abbrev pub names_of : List PlainType → List VarName
names_of ts = map (λ t. no_name) ts

abbrev pub function_of : PlainType → ℕ → List PlainType → ℕ → List TypedStmt → TypedFunction
function_of result params locals nodes body =
    record {
      name = [];
      result = result;
      params = params;
      locals = locals;
      names = names_of locals;
      nodes = nodes;
      weight = 0;
      body = stmt.Block (statements_of body);
    }

abbrev pub zero_object : PlainType → TypedObject
zero_object ty = record { name = no_name; ty = ty; image = record { bytes = []; pointers = [] } }

-- `main` alone, with its locals and so many expressions; it ends with `return 0;`
abbrev pub main_of : List PlainType → ℕ → List TypedStmt → TypedFunction
main_of locals nodes body = function_of int_type 0 locals nodes body

abbrev pub program_of : PlainStructs → List TypedObject → List TypedFunction → TypedProgram
program_of structs statics functions =
    record { structs = structs; statics = statics; functions = functions; main = 0 }

abbrev pub simple : List PlainType → ℕ → List TypedStmt → TypedProgram
simple locals nodes body = program_of [] [] (main_of locals nodes body ∷ [])
