-- The typed trees of the programs that are examples.
use Rattle.std.specs.Prelude.{ℕ, pos, false, true, Some, [], ◌∷◌}
use Rattle.ob_words.specs.declared.types.IntType.{IntType}
use Rattle.ob_words.specs.declared.types.IntType.TheVariants.{Char, UChar, Int, UInt, Long}
use Rattle.ob_words.specs.declared.types.BinOp.TheVariants.{Add, Sub}
use Rattle.ob_words.specs.declared.types.Relation.TheVariants.{Lt}
use Rattle.ob_tree.specs.Types.{PlainType}
use Rattle.ob_tree.specs.Types.{PlainType as type}
use Rattle.ob_typed.specs.declared.names.Builtin.TheVariants as builtin
use Rattle.ob_typed.specs.TypedTree.{TypedExpr, TypedExprs, TypedFunction, TypedLean, TypedNode, TypedProgram, TypedStmt}
use Rattle.ob_typed.specs.TypedTree.{TypedExpr as expr, TypedExprs as exprs, TypedPlace as place, TypedLean as lean, TypedNode as node, TypedInit as init, TypedStmt as stmt, TypedStmts as stmts}
use Rattle.ob_typed.specs.Images.{no_image}

-- ---- what the trees below are written with

abbrev int : PlainType
int = type.Int Int

-- a value of an integer type at a line, a number, and what is loaded from a place
abbrev of : (line : ℕ) → IntType → TypedNode → TypedExpr
of line k n = expr.Typed line (type.Int k) n

abbrev number : (line : ℕ) → IntType → ℕ → TypedExpr
number line k n = of line k (node.Num (pos n))

abbrev read : (line : ℕ) → PlainType → TypedLean → TypedExpr
read line t l = expr.Typed line t (node.Read (place.Place line t l))

abbrev one : TypedExpr → TypedExprs
one e = exprs.Argument e exprs.NoArguments

abbrev body_two : TypedStmt → TypedStmt → TypedStmt
body_two a b = stmt.Block (stmts.Stmt a (stmts.Stmt b stmts.NoStmts))

abbrev body_one : TypedStmt → TypedStmt
body_one a = stmt.Block (stmts.Stmt a stmts.NoStmts)

-- `main` without automatic objects
abbrev main_function : (nodes weight : ℕ) → TypedStmt → TypedFunction
main_function n w s = record {
  name = 109 ∷ 97 ∷ 105 ∷ 110 ∷ [];
  result = int;
  params = 0;
  locals = [];
  names = [];
  nodes = n;
  weight = w;
  body = s;
}

-- ---- the typed trees

abbrev pub typed_recursion : TypedProgram
typed_recursion = record {
  structs = [];
  statics = [];
  functions = record {
    name = 102 ∷ [];
    result = int;
    params = 1;
    locals = int ∷ [];
    names = record { name = 110 ∷ []; line = 1 } ∷ [];
    nodes = 6;
    weight = 88;
    body = body_two
        (stmt.Expr (of 1 Int (node.CallBuiltin builtin.PutChar (one (number 1 Int 46)))))
        (stmt.Return (Some (of 1 Int (node.Call 0 (one (of 1 Int (node.Arith Add Int (read 1 int (lean.Local 0)) (number 1 Int 1))))))));
  }
      ∷ main_function 2 40 (body_one (stmt.Return (Some (of 2 Int (node.Call 0 (one (number 2 Int 0)))))))
      ∷ [];
  main = 1;
}

-- an element of the static array of characters
abbrev element : ℕ → TypedLean
element n = lean.Slide (lean.Static 0) 1 false false (number 2 Int n)

abbrev pub typed_elements : TypedProgram
typed_elements = record {
  structs = [];
  statics = record { name = record { name = 97 ∷ []; line = 1 }; ty = type.Array (type.Int Char) 2; image = no_image } ∷ [];
  functions = main_function 8 96 (body_two
      (stmt.Expr (of 2 Char (node.Assign (place.Place 2 (type.Int Char) (element 16)) (of 2 Char (node.Convert Char (number 2 Int 88))))))
      (stmt.Return (Some (of 2 Int (node.Convert Int (read 2 (type.Int Char) (element 0)))))))
      ∷ [];
  main = 0;
}

abbrev char_pointer : PlainType
char_pointer = type.Pointer (type.Int Char)

abbrev pub typed_strings : TypedProgram
typed_strings = record {
  structs = record { complete = true; members = record { name = 99 ∷ []; ty = type.Int Char } ∷ record { name = 112 ∷ []; ty = char_pointer } ∷ [] } ∷ [];
  statics = record {
    name = record { name = 120 ∷ []; line = 1 };
    ty = type.Struct 0;
    image = record { bytes = 65 ∷ []; pointers = record { at = 8; target = 1; offset = 0 } ∷ [] };
  }
      ∷ record {
        name = record { name = []; line = 1 };
        ty = type.Array (type.Int Char) 3;
        image = record { bytes = 97 ∷ 98 ∷ []; pointers = [] };
      }
      ∷ [];
  functions = main_function 4 56 (body_one (stmt.Return (Some (of 2 Int (node.Convert Int
      (read 2 (type.Int Char) (lean.Slide (lean.Value (read 2 char_pointer (lean.Member (lean.Static 0) 8))) 1 false false (number 2 Int 1))))))))
      ∷ [];
  main = 0;
}

abbrev int_pointer : PlainType
int_pointer = type.Pointer int

abbrev pub typed_lines : TypedProgram
typed_lines = record {
  structs = [];
  statics = [];
  functions = record {
    name = 109 ∷ 97 ∷ 105 ∷ 110 ∷ [];
    result = int;
    params = 0;
    locals = int_pointer ∷ [];
    names = record { name = 112 ∷ []; line = 2 } ∷ [];
    nodes = 8;
    weight = 112;
    body = stmt.Block (stmts.Stmt
        (stmt.Init 0 (init.Value (expr.Typed 2 int_pointer node.Null)))
        (stmts.Stmt
        (stmt.Expr (of 3 Int (node.Assign (place.Place 3 int (lean.Value (read 4 int_pointer (lean.Local 0)))) (number 4 Int 1))))
        (stmts.Stmt
        (stmt.Return (Some (read 5 int (lean.Value (read 6 int_pointer (lean.Local 0))))))
        stmts.NoStmts)));
  }
      ∷ [];
  main = 0;
}

abbrev long : PlainType
long = type.Int Long

abbrev byte : PlainType
byte = type.Int UChar

abbrev pub typed_conversions : TypedProgram
typed_conversions = record {
  structs = [];
  statics = [];
  functions = record {
    name = 109 ∷ 97 ∷ 105 ∷ 110 ∷ [];
    result = int;
    params = 0;
    locals = byte ∷ long ∷ [];
    names = record { name = 99 ∷ []; line = 2 } ∷ record { name = 108 ∷ []; line = 2 } ∷ [];
    nodes = 13;
    weight = 160;
    body = stmt.Block (stmts.Stmt
        (stmt.Expr (of 3 UChar (node.Update Add Int false (place.Place 3 byte (lean.Local 0)) (number 3 Int 1))))
        (stmts.Stmt
        (stmt.Expr (of 4 Long (node.Assign (place.Place 4 long (lean.Local 1)) (of 4 Long (node.Convert Long (of 4 UInt (node.Cond
        (read 4 byte (lean.Local 0))
        (of 4 UInt (node.Convert UInt (of 4 Int (node.Arith Sub Int (number 4 Int 0) (number 4 Int 1)))))
        (number 4 UInt 2))))))))
        (stmts.Stmt
        (stmt.Return (Some (of 5 Int (node.Compare Lt (of 5 Long (node.Convert Long (read 5 byte (lean.Local 0)))) (read 5 long (lean.Local 1))))))
        stmts.NoStmts)));
  }
      ∷ [];
  main = 0;
}
