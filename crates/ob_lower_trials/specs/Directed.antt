-- Small programs, each about a place where code goes wrong easily: an operand that changes while it waits, a conversion that seems
-- needless, a jump that goes one too far. Each is given as C; the function's last expression is what `main` returns.
use Rattle.std.specs.Prelude.{ℕ, false, true, pos, negsuc, List, [], ◌∷◌, Some}
use Rattle.ob_words.specs.declared.types.BinOp.TheVariants as op
use Rattle.ob_words.specs.declared.types.IntType.TheVariants as type
use Rattle.ob_words.specs.declared.types.Relation.TheVariants as relation
use Rattle.ob_tree.specs.Types.{PlainType}
use Rattle.ob_tree.specs.Types.PlainType.{Int, Pointer, Array, Struct}
use Rattle.ob_typed.specs.TypedTree.{TypedExpr, TypedProgram, TypedStmt}
use Rattle.ob_typed.specs.TypedTree.TypedExpr.{Typed}
use Rattle.ob_typed.specs.TypedTree.{TypedNode as node, TypedLean as at, TypedStmt as stmt, TypedInit as init}
use Rattle.ob_meaning.specs.ControlExamples.{block, call_of, int_item, is, items_of, local, put_value, two_ints}
use Rattle.ob_meaning.specs.Examples.{return_zero}
use Rattle.ob_meaning.specs.ExampleTrees.{as_char, as_int, char_type, digit, function_of, int, int_type, main_of, number, place, plus, pointed, pointer_to, program_of, put, read, set, simple, statements_of}

abbrev pub unsigned_type : PlainType
unsigned_type = Int type.UInt

abbrev pub long_type : PlainType
long_type = Int type.Long

abbrev pub give : TypedExpr → List TypedStmt
give e = stmt.Return (Some e) ∷ []

abbrev pub start : ℕ → ℕ → TypedStmt
start v n = stmt.Init v (int_item n)

abbrev pub assign : ℕ → TypedExpr → TypedExpr
assign v e = int (node.Assign (place int_type (at.Local v)) e)

abbrev pub after_step : ℕ → TypedExpr
after_step v = int (node.Update op.Add type.Int true (place int_type (at.Local v)) (number 1))

abbrev pub add_to : ℕ → TypedExpr → TypedExpr
add_to v e = int (node.Update op.Add type.Int false (place int_type (at.Local v)) e)

-- int x = 1; x = x++; return x;
abbrev pub step_into_itself : TypedProgram
step_into_itself = simple (int_type ∷ []) 8 (start 0 1 ∷ stmt.Expr (assign 0 (after_step 0)) ∷ give (local 0))

-- int x = 3, y = 4; x = (y + 1) + x; return x;
abbrev pub sum_into_operand : TypedProgram
sum_into_operand =
    simple (int_type ∷ int_type ∷ []) 10
    (start 0 3 ∷ start 1 4 ∷ stmt.Expr (assign 0 (plus (plus (local 1) (number 1)) (local 0))) ∷ give (local 0))

-- int x = 2; return x + (x = 5);
abbrev pub changed_operand : TypedProgram
changed_operand = simple (int_type ∷ []) 7 (start 0 2 ∷ give (plus (local 0) (assign 0 (number 5))))

-- int x = 3; x += x++; x += (x = 2); return x;
abbrev pub changed_variable : TypedProgram
changed_variable =
    simple (int_type ∷ []) 12
    (start 0 3 ∷ stmt.Expr (add_to 0 (after_step 0)) ∷ stmt.Expr (add_to 0 (assign 0 (number 2))) ∷ give (local 0))

-- int i = 0; int a[4]; a[i] = i = 3; return a[0] + i;
abbrev pub changed_index : TypedProgram
changed_index =
    simple (int_type ∷ Array int_type 4 ∷ []) 16
    (start 0 0 ∷ set int_type (at.Slide (at.Local 1) 4 false false (local 0)) (assign 0 (number 3))
    ∷ give (plus (read int_type (at.Slide (at.Local 1) 4 false false (number 0))) (local 0)))

-- int i = 0; int m[2][2]; (i++)[(i++)[m]] = i; return m[1][0] + i;
abbrev pub numbers_first : TypedProgram
numbers_first =
    simple (int_type ∷ Array (Array int_type 2) 2 ∷ []) 20
    (start 0 0 ∷ set int_type (at.Slide (at.Slide (at.Local 1) 8 false true (after_step 0)) 4 false true (after_step 0)) (local 0)
    ∷ give (plus (read int_type (at.Slide (at.Slide (at.Local 1) 8 false false (number 1)) 4 false false (number 0))) (local 0)))

-- char c = 100; int x; x = (c += 100); x = x + (c = 300); return x;
abbrev pub narrow : TypedProgram
narrow =
    simple (char_type ∷ int_type ∷ []) 16
    (stmt.Init 0 (init.Value (as_char (number 100)))
    ∷ stmt.Expr (assign 1 (as_int (Typed 1 char_type (node.Update op.Add type.Int false (place char_type (at.Local 0)) (number 100)))))
    ∷ stmt.Expr (assign 1 (plus (local 1) (as_int (Typed 1 char_type (node.Assign (place char_type (at.Local 0)) (as_char (number 300)))))))
    ∷ give (local 1))

-- int x = -1; unsigned u = x; long l = u; putchar('0' + (l == 4294967295)); putchar('0' + (x < u)); return x < l;
abbrev pub widened : TypedProgram
widened =
    simple (int_type ∷ unsigned_type ∷ long_type ∷ []) 24
    (stmt.Init 0 (init.Value (int (node.Num (negsuc 0))))
    ∷ stmt.Init 1 (init.Value (Typed 1 unsigned_type (node.Convert type.UInt (local 0))))
    ∷ stmt.Init 2 (init.Value (Typed 1 long_type (node.Convert type.Long (read unsigned_type (at.Local 1)))))
    ∷ put (digit (int (node.Compare relation.Eq (read long_type (at.Local 2)) (Typed 1 long_type (node.Num (pos 4294967295))))))
    ∷ put (digit (int (node.Compare relation.Lt (Typed 1 unsigned_type (node.Convert type.UInt (local 0))) (read unsigned_type (at.Local 1)))))
    ∷ give (int (node.Compare relation.Lt (Typed 1 long_type (node.Convert type.Long (local 0))) (read long_type (at.Local 2)))))

-- int a = 2, b = 0; if (!(a && b)) putchar(65); while (!(a || b)) putchar(66); return (a && b) + (a || b);
abbrev pub negated : TypedExpr → TypedExpr
negated e = int (node.Compare relation.Eq e (number 0))

abbrev pub truths : TypedProgram
truths =
    simple (int_type ∷ int_type ∷ []) 24
    (start 0 2 ∷ start 1 0 ∷ stmt.If (negated (int (node.And (local 0) (local 1)))) (put (number 65))
    ∷ stmt.While (negated (int (node.Or (local 0) (local 1)))) (put (number 66))
    ∷ give (plus (int (node.And (local 0) (local 1))) (int (node.Or (local 0) (local 1)))))

-- int i, s = 0; for (i = 0; i < 9; i++) {if (i == 3) continue; if (i == 5) break; s += i;} do s++; while (0); return s;
abbrev pub breaks : TypedProgram
breaks =
    simple (int_type ∷ int_type ∷ []) 24
    (start 1 0
    ∷ stmt.For (statements_of (stmt.Expr (assign 0 (number 0)) ∷ [])) (Some (is relation.Lt (local 0) 9)) (Some (after_step 0))
    (block (stmt.If (is relation.Eq (local 0) 3) stmt.Continue ∷ stmt.If (is relation.Eq (local 0) 5) stmt.Break ∷ stmt.Expr (add_to 1 (local 0)) ∷ []))
    ∷ stmt.Do (stmt.Expr (after_step 1)) (number 0) ∷ give (local 1))

-- int n = 3; while (n--) putchar('0' + n); while (n < 1 && n++ < 9) putchar('0' + n); return n;
abbrev pub counted_down : TypedProgram
counted_down =
    simple (int_type ∷ []) 24
    (start 0 3
    ∷ stmt.While (int (node.Update op.Sub type.Int true (place int_type (at.Local 0)) (number 1))) (put (digit (local 0)))
    ∷ stmt.While (int (node.And (is relation.Lt (local 0) 1) (is relation.Lt (after_step 0) 9))) (put (digit (local 0)))
    ∷ give (local 0))

-- int f(int x, int y) {int *p = &x; *p += y; return x;}   in main: int x = 1; return f(x, f(x = 2, x++)) + x;
abbrev pub exposed_parameter : TypedProgram
exposed_parameter =
    program_of [] []
    (main_of (int_type ∷ []) 12
    (start 0 1 ∷ give (plus (call_of 1 (local 0 ∷ call_of 1 (assign 0 (number 2) ∷ after_step 0 ∷ []) ∷ [])) (local 0)))
    ∷ function_of int_type 2 (int_type ∷ int_type ∷ Pointer int_type ∷ []) 8
    (stmt.Init 2 (init.Value (pointer_to int_type (at.Local 0)))
    ∷ stmt.Expr (int (node.Update op.Add type.Int false (place int_type (pointed int_type 2)) (local 1))) ∷ give (local 0)) ∷ [])

-- struct {int a; int b;} v = {putchar(65), 1}; return 0; where nothing names v
abbrev pub unnamed : TypedProgram
unnamed =
    program_of two_ints []
    (main_of (Struct 0 ∷ []) 5 (stmt.Init 0 (init.Items (items_of (init.Value (put_value 65) ∷ int_item 1 ∷ []))) ∷ return_zero) ∷ [])

-- int x = 258; *(char *)&x = 1; return x;
abbrev pub other_type : TypedProgram
other_type =
    simple (int_type ∷ []) 8 (start 0 258 ∷ set char_type (at.Local 0) (as_char (number 1)) ∷ give (local 0))
