-- Small programs, each about one or two rules: operators, choices, subscripts, initialisers, comparisons of pointers, `calloc`,
-- `free` and the stack.
use Rattle.std.specs.Prelude.{ℕ, false, true, pos, [], ◌∷◌, Some}
use Rattle.ob_words.specs.declared.types.BinOp.{BinOp}
use Rattle.ob_words.specs.declared.types.BinOp.TheVariants as op
use Rattle.ob_words.specs.declared.types.IntType.TheVariants as type
use Rattle.ob_words.specs.declared.types.Relation.{Relation}
use Rattle.ob_words.specs.declared.types.Relation.TheVariants as relation
use Rattle.ob_tree.specs.Types.{PlainType}
use Rattle.ob_tree.specs.Types.PlainType.{Int, Struct}
use Rattle.ob_typed.specs.declared.names.Builtin.TheVariants as builtin
use Rattle.ob_typed.specs.TypedTree.{TypedExpr, TypedLean, TypedProgram, TypedStmt}
use Rattle.ob_typed.specs.TypedTree.TypedExprs.{NoArguments}
use Rattle.ob_typed.specs.TypedTree.TypedExpr.{Typed}
use Rattle.ob_typed.specs.TypedTree.{TypedNode as node, TypedLean as at, TypedStmt as stmt, TypedInit as init}
use Rattle.ob_meaning.specs.ControlExamples.{int_item, items_of, two_ints}
use Rattle.ob_meaning.specs.Examples.{first_char, null, put_found, return_zero, two_chars}
use Rattle.ob_meaning.specs.ExampleTrees.{as_char, as_int, built_in_call, char_pointer, char_type, digit, element, function_of, int, int_type, main_of, malloc, number, past, place, plus, pointed, pointer_to, program_of, put, read, set, simple}

-- ---- operators

-- putchar('0' + 7 % 3); and so on, for (-7) % 3 + 5, 6 & 3, 6 | 3, 6 ^ 3, 1 << 3, 9 >> 1, 1 << 33, (1 << -31), ((-8) >> 1) + 9
abbrev pub computed : BinOp → TypedExpr → TypedExpr → TypedExpr
computed op a b = int (node.Arith op type.Int a b)

abbrev pub minus : ℕ → TypedExpr
minus n = computed op.Sub (number 0) (number n)

abbrev pub operators : TypedProgram
operators =
    simple [] 58
    (put (digit (computed op.Rem (number 7) (number 3)))
    ∷ put (digit (plus (computed op.Rem (minus 7) (number 3)) (number 5)))
    ∷ put (digit (computed op.And (number 6) (number 3)))
    ∷ put (digit (computed op.Or (number 6) (number 3)))
    ∷ put (digit (computed op.Xor (number 6) (number 3)))
    ∷ put (digit (computed op.Shl (number 1) (number 3)))
    ∷ put (digit (computed op.Shr (number 9) (number 1)))
    ∷ put (digit (computed op.Shl (number 1) (number 33)))
    ∷ put (digit (computed op.Shl (number 1) (minus 31)))
    ∷ put (digit (plus (computed op.Shr (minus 8) (number 1)) (number 9))) ∷ return_zero)

-- ---- choices

-- if (0) putchar(65); else putchar(66); if (1) putchar(67); else putchar(68);
abbrev pub choices : TypedProgram
choices =
    simple [] 11
    (stmt.IfElse (number 0) (put (number 65)) (put (number 66)) ∷ stmt.IfElse (number 1) (put (number 67)) (put (number 68)) ∷ return_zero)

-- ---- subscripts

-- char s[2] = "xy"; char *f(void) { putchar(65); return s; } int g(void) { putchar(66); return 1; }
-- in main: putchar(g()[f()]); putchar(f()[g()]);
abbrev pub pointer_call : TypedLean
pointer_call = at.Value (Typed 1 char_pointer (node.Call 1 NoArguments))

abbrev pub number_call : TypedExpr
number_call = int (node.Call 2 NoArguments)

abbrev pub subscripts : TypedProgram
subscripts =
    program_of []
    (record { name = record { name = 115 ∷ []; line = 1 }; ty = two_chars; image = record { bytes = 120 ∷ 121 ∷ []; pointers = [] } } ∷ [])
    (main_of [] 9
    (put (as_int (read char_type (at.Slide pointer_call 1 false true number_call)))
    ∷ put (as_int (read char_type (at.Slide pointer_call 1 false false number_call))) ∷ return_zero)
    ∷ function_of char_pointer 0 [] 3 (put (number 65) ∷ stmt.Return (Some (pointer_to char_type (at.Static 0))) ∷ [])
    ∷ function_of int_type 0 [] 3 (put (number 66) ∷ stmt.Return (Some (number 1)) ∷ []) ∷ [])

-- ---- initialisers

-- struct {int a; int b;} s = {1, 2}, t = s; putchar('0' + t.a); putchar('0' + t.b);
abbrev pub copied_first : TypedProgram
copied_first =
    program_of two_ints []
    (main_of (Struct 0 ∷ Struct 0 ∷ []) 15
    (stmt.Init 0 (init.Items (items_of (int_item 1 ∷ int_item 2 ∷ []))) ∷ stmt.Init 1 (init.Copy (place (Struct 0) (at.Local 0)))
    ∷ put (digit (read int_type (at.Member (at.Local 1) 0))) ∷ put (digit (read int_type (at.Member (at.Local 1) 4))) ∷ return_zero) ∷ [])

-- char a[2] = "ab"; putchar(a[0]); putchar(a[1]);
abbrev pub exact_string : TypedProgram
exact_string =
    simple (two_chars ∷ []) 9
    (stmt.Init 0 (init.Chars (97 ∷ 98 ∷ [])) ∷ put (as_int (read char_type (element 0 0))) ∷ put (as_int (read char_type (element 0 1))) ∷ return_zero)

-- ---- comparisons of pointers

abbrev pub compared : Relation → TypedExpr → TypedExpr → TypedStmt
compared r a b = put (digit (int (node.PtrCompare r a b)))

abbrev pub pointer_past : ℕ → ℕ → TypedExpr
pointer_past local n = pointer_to char_type (past (at.Local local) 1 n)

-- char a[2]; putchar('0' + (a <= a)); and so on, for a + 1 <= a, a >= a + 1, a >= a, a > a, a + 1 > a, a < a, a != a
abbrev pub relations : TypedProgram
relations =
    simple (two_chars ∷ []) 57
    (compared relation.Le (pointer_past 0 0) (pointer_past 0 0) ∷ compared relation.Le (pointer_past 0 1) (pointer_past 0 0)
    ∷ compared relation.Ge (pointer_past 0 0) (pointer_past 0 1) ∷ compared relation.Ge (pointer_past 0 0) (pointer_past 0 0)
    ∷ compared relation.Gt (pointer_past 0 0) (pointer_past 0 0) ∷ compared relation.Gt (pointer_past 0 1) (pointer_past 0 0)
    ∷ compared relation.Lt (pointer_past 0 0) (pointer_past 0 0) ∷ compared relation.Ne (pointer_past 0 0) (pointer_past 0 0) ∷ return_zero)

-- char a[2], b[2]; putchar('0' + (a + 100 < b)); putchar('0' + (b < a + 100)); putchar('0' + ((char *)0 < a));
-- putchar('0' + (b + 1 - a)); putchar('0' + (b + 2 - b));
abbrev pub difference : TypedExpr → TypedExpr → TypedStmt
difference a b = put (digit (as_int (Typed 1 (Int type.Long) (node.PtrDiff 1 a b))))

abbrev pub two_objects : TypedProgram
two_objects =
    simple (two_chars ∷ two_chars ∷ []) 46
    (compared relation.Lt (pointer_past 0 100) (pointer_past 1 0) ∷ compared relation.Lt (pointer_past 1 0) (pointer_past 0 100)
    ∷ compared relation.Lt null (pointer_past 0 0) ∷ difference (pointer_past 1 1) (pointer_past 0 0) ∷ difference (pointer_past 1 2) (pointer_past 1 0) ∷ return_zero)

-- ---- the heap

-- char *p; p = calloc(4294967296, 4294967296); putchar('0' + (p != 0)); p = calloc(4, 4); putchar('0' + (p != 0));
-- putchar('0' + p[15]); p = malloc(0); putchar('0' + (p != 0));
abbrev pub as_size : TypedExpr → TypedExpr
as_size e = Typed 1 (Int type.ULong) (node.Convert type.ULong e)

abbrev pub long : ℕ → TypedExpr
long n = Typed 1 (Int type.Long) (node.Num (pos n))

abbrev pub calloc : TypedExpr → TypedExpr
calloc n = built_in_call char_pointer builtin.Calloc (as_size n ∷ as_size n ∷ [])

abbrev pub product : TypedProgram
product =
    simple (char_pointer ∷ []) 43
    (set char_pointer (at.Local 0) (calloc (long 4294967296)) ∷ put_found ∷ set char_pointer (at.Local 0) (calloc (number 4)) ∷ put_found
    ∷ put (digit (as_int (read char_type (past (pointed char_type 0) 1 15)))) ∷ set char_pointer (at.Local 0) (malloc char_type 0) ∷ put_found ∷ return_zero)

-- char *p; p = malloc(4); p[0] = 65; free(p + 1); putchar(p[0]);
abbrev pub inner_free : TypedProgram
inner_free =
    simple (char_pointer ∷ []) 18
    (set char_pointer (at.Local 0) (malloc char_type 4) ∷ set char_type (first_char 0) (as_char (number 65))
    ∷ stmt.Expr (built_in_call PlainType.Void builtin.Free (pointer_to PlainType.Void (past (pointed char_type 0) 1 1) ∷ []))
    ∷ put (as_int (read char_type (first_char 0))) ∷ return_zero)

-- ---- the stack

-- main alone, of so many expressions, with an allowance of 16 bytes for each and 16 more
abbrev pub full_stack : TypedProgram
full_stack = simple [] 65535 return_zero

abbrev pub past_stack : TypedProgram
past_stack = simple [] 65536 return_zero
