-- Small programs about what waits while the rest of an expression is evaluated, in memory and out of it: bases, numbers, older values,
-- and displacements that are known or lie far out. Each is given as C.
use Rattle.std.specs.Prelude.{ℕ, ◌^◌, false, true, pos, List, [], ◌∷◌}
use Rattle.ob_words.specs.declared.types.BinOp.TheVariants as op
use Rattle.ob_words.specs.declared.types.IntType.TheVariants as type
use Rattle.ob_words.specs.declared.types.Relation.TheVariants as relation
use Rattle.ob_tree.specs.Types.{PlainType}
use Rattle.ob_tree.specs.Types.PlainType.{Int, Pointer, Array, Struct}
use Rattle.ob_typed.specs.declared.names.Builtin.TheVariants as builtin
use Rattle.ob_typed.specs.TypedTree.{TypedExpr, TypedLean, TypedProgram, TypedStmt}
use Rattle.ob_typed.specs.TypedTree.TypedExpr.{Typed}
use Rattle.ob_typed.specs.TypedTree.{TypedNode as node, TypedLean as at, TypedStmt as stmt, TypedInit as init}
use Rattle.ob_meaning.specs.ControlExamples.{int_item, items_of, local, put_value, two_ints}
use Rattle.ob_meaning.specs.Examples.{return_zero}
use Rattle.ob_meaning.specs.ExampleTrees.{as_char, as_int, built_in_call, char_type, digit, int, int_type, main_of, number, past, place, plus, pointed, pointer_to, program_of, put, read, set, simple, zero_object}
use Rattle.ob_lower_trials.specs.Directed.{after_step, assign, give, long_type, negated, start}

abbrev pub int_pointer : PlainType
int_pointer = Pointer int_type

abbrev pub ints : PlainType
ints = Array int_type 2

abbrev pub wide : ℕ → TypedExpr
wide n = Typed 1 long_type (node.Num (pos n))

abbrev pub comma : TypedExpr → TypedExpr → TypedExpr
comma a (Typed line ty b) = Typed line ty (node.Comma a (Typed line ty b))

abbrev pub times : TypedExpr → TypedExpr → TypedExpr
times a b = int (node.Arith op.Mul type.Int a b)

-- element i of an array, or of what a pointer points to
abbrev pub at_element : TypedLean → TypedExpr → TypedLean
at_element lean i = at.Slide lean 4 false false i

-- pointer p becomes the first element of array a
abbrev pub point : (p a : ℕ) → TypedExpr
point p a = Typed 1 int_pointer (node.Assign (place int_pointer (at.Local p)) (pointer_to int_type (at.Local a)))

-- with int a[2] = {3, 4}, b[2]; int *p = a; int i = 1; as the first four variables
abbrev pub with_pointer : List TypedStmt → TypedProgram
with_pointer body =
    simple (ints ∷ ints ∷ int_pointer ∷ int_type ∷ []) 40
    (stmt.Init 0 (init.Items (items_of (int_item 3 ∷ int_item 4 ∷ []))) ∷ stmt.Init 2 (init.Value (pointer_to int_type (at.Local 0))) ∷ start 3 1 ∷ body)

-- p[(p = b, i)] = 5; p[1] = (p = a, 6); return 10 * a[1] + b[1];
abbrev pub changed_base : TypedProgram
changed_base =
    with_pointer
    (set int_type (at_element (pointed int_type 2) (comma (point 2 1) (local 3))) (number 5)
    ∷ set int_type (at_element (pointed int_type 2) (number 1)) (comma (point 2 0) (number 6))
    ∷ give (plus (times (number 10) (read int_type (at_element (at.Local 0) (number 1)))) (read int_type (at_element (at.Local 1) (number 1)))))

-- return i[(i = 0, p)] + 1[p] * i;
abbrev pub changed_number : TypedProgram
changed_number =
    with_pointer
    (give (plus (read int_type (at.Slide (at.Value (comma (assign 3 (number 0)) (read int_pointer (at.Local 2)))) 4 false true (local 3)))
    (times (read int_type (at.Slide (pointed int_type 2) 4 false true (number 1))) (local 3))))

-- return 10 * (a[i++] += i) + (p[0]++ + p[0]);
abbrev pub memory_steps : TypedProgram
memory_steps =
    with_pointer
    (give (plus (times (number 10) (int (node.Update op.Add type.Int false (place int_type (at_element (at.Local 0) (after_step 3))) (local 3))))
    (plus (int (node.Update op.Add type.Int true (place int_type (pointed int_type 2)) (number 1))) (read int_type (pointed int_type 2)))))

-- char c[2]; c[1] = 100; return (c[1] += 100) < 0;
abbrev pub narrow_memory : TypedProgram
narrow_memory =
    simple (Array char_type 2 ∷ []) 16
    (set char_type (past (at.Local 0) 1 1) (as_char (number 100))
    ∷ give (int (node.Compare relation.Lt (as_int (Typed 1 char_type (node.Update op.Add type.Int false (place char_type (past (at.Local 0) 1 1)) (number 100)))) (number 0))))

-- if (p != b) putchar(65); while (p != a + 1) p += i; if (!(p != a)) putchar(66); return 10 * (p != a) + (p - a);
abbrev pub unlike : TypedExpr → TypedExpr → TypedExpr
unlike a b = int (node.PtrCompare relation.Ne a b)

abbrev pub pointers_in_tests : TypedProgram
pointers_in_tests =
    with_pointer
    (stmt.If (unlike (read int_pointer (at.Local 2)) (pointer_to int_type (at.Local 1))) (put (number 65))
    ∷ stmt.While (unlike (read int_pointer (at.Local 2)) (pointer_to int_type (at_element (at.Local 0) (number 1))))
    (stmt.Expr (Typed 1 int_pointer (node.PtrUpdate 4 false false (place int_pointer (at.Local 2)) (local 3))))
    ∷ stmt.If (negated (unlike (read int_pointer (at.Local 2)) (pointer_to int_type (at.Local 0)))) (put (number 66))
    ∷ give (plus (times (number 10) (unlike (read int_pointer (at.Local 2)) (pointer_to int_type (at.Local 0))))
    (as_int (Typed 1 long_type (node.PtrDiff 4 (read int_pointer (at.Local 2)) (pointer_to int_type (at.Local 0)))))))

-- struct {int a; int b;} s[2]; int i = 1; s[i].b = 7; s[i - 1] = s[i]; s[2 ^ 58] = s[0]; return s[0].b;
abbrev pub structure_at : TypedExpr → TypedLean
structure_at i = at.Slide (at.Local 0) 8 false false i

abbrev pub copy : TypedLean → TypedLean → TypedStmt
copy to from = stmt.Expr (Typed 1 PlainType.Void (node.CopyStruct (place (Struct 0) to) (place (Struct 0) from)))

abbrev pub copied_elements : TypedProgram
copied_elements =
    program_of two_ints []
    (main_of (Array (Struct 0) 2 ∷ int_type ∷ []) 30
    (start 1 1 ∷ set int_type (at.Member (structure_at (local 1)) 4) (number 7)
    ∷ copy (structure_at (int (node.Arith op.Sub type.Int (local 1) (number 1)))) (structure_at (local 1))
    ∷ copy (structure_at (wide (2 ^ 58))) (structure_at (number 0)) ∷ give (read int_type (at.Member (structure_at (number 0)) 4))) ∷ [])

-- struct {int a; int b;} s[2]; putchar(48 + s[2 ^ 58].b); s[2 ^ 59].b = putchar(65);
abbrev pub far_member : TypedProgram
far_member =
    program_of two_ints []
    (main_of (Array (Struct 0) 2 ∷ []) 20
    (put (digit (read int_type (at.Member (structure_at (wide (2 ^ 58))) 4)))
    ∷ set int_type (at.Member (structure_at (wide (2 ^ 59))) 4) (put_value 65) ∷ return_zero) ∷ [])

-- static int *g; struct {int a; int b;} v = *(struct *)g; g = malloc(8); g += 1; *g++ = 5; return g[-1];
abbrev pub static_steps : TypedProgram
static_steps =
    program_of two_ints (zero_object int_pointer ∷ [])
    (main_of (Struct 0 ∷ []) 30
    (stmt.Init 0 (init.Copy (place (Struct 0) (at.Value (read int_pointer (at.Static 0)))))
    ∷ set int_pointer (at.Static 0) (built_in_call int_pointer builtin.Malloc (Typed 1 (Int type.ULong) (node.Num (pos 8)) ∷ []))
    ∷ stmt.Expr (Typed 1 int_pointer (node.PtrUpdate 4 false false (place int_pointer (at.Static 0)) (number 1)))
    ∷ set int_type (at.Value (Typed 1 int_pointer (node.PtrUpdate 4 false true (place int_pointer (at.Static 0)) (number 1)))) (number 5)
    ∷ give (read int_type (at.Slide (at.Value (read int_pointer (at.Static 0))) 4 true false (number 1)))) ∷ [])

-- int n = 6; char *p = calloc(n, n = 1); p[5] = 7; long l = 4294967296; int x = 456; if (!(int)l) putchar(65); if ((char)(x - 200)) putchar(66);
-- return p[5] + (x << (n && l)) + ((x && l) + 2 * (n || l));
abbrev pub widths : TypedProgram
widths =
    simple (int_type ∷ Pointer char_type ∷ long_type ∷ int_type ∷ []) 40
    (start 0 6
    ∷ set (Pointer char_type) (at.Local 1) (built_in_call (Pointer char_type) builtin.Calloc (Typed 1 (Int type.ULong) (node.Convert type.ULong (local 0)) ∷ Typed 1 (Int type.ULong) (node.Convert type.ULong (assign 0 (number 1))) ∷ []))
    ∷ set char_type (past (pointed char_type 1) 1 5) (as_char (number 7))
    ∷ stmt.Init 2 (init.Value (wide 4294967296)) ∷ start 3 456
    ∷ stmt.If (negated (as_int (read long_type (at.Local 2)))) (put (number 65))
    ∷ stmt.If (int (node.Compare relation.Ne (as_int (as_char (int (node.Arith op.Sub type.Int (local 3) (number 200))))) (number 0))) (put (number 66))
    ∷ give (plus (as_int (read char_type (past (pointed char_type 1) 1 5)))
    (plus (int (node.Arith op.Shl type.Int (local 3) (int (node.And (local 0) (read long_type (at.Local 2))))))
    (plus (int (node.And (local 3) (read long_type (at.Local 2)))) (times (number 2) (int (node.Or (local 0) (read long_type (at.Local 2)))))))))
