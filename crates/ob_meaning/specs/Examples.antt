-- Small programs, whose runs the laws tell. Each is given as C, and then as its typed tree. All have
-- `return 0;` at the end of `main`.
use Rattle.std.specs.Prelude.{ℕ, true, negsuc, List, [], ◌∷◌, ◌++◌, Some}
use Rattle.ob_words.specs.declared.types.BinOp.TheVariants as op
use Rattle.ob_words.specs.declared.types.IntType.TheVariants as type
use Rattle.ob_words.specs.declared.types.Relation.TheVariants as relation
use Rattle.ob_tree.specs.Types.{PlainType, PlainStructs}
use Rattle.ob_tree.specs.Types.PlainType.{Pointer, Array, Struct}
use Rattle.ob_typed.specs.declared.names.Builtin.TheVariants as builtin
use Rattle.ob_typed.specs.TypedTree.{TypedExpr, TypedLean, TypedProgram, TypedStmt}
use Rattle.ob_typed.specs.TypedTree.TypedExpr.{Typed}
use Rattle.ob_typed.specs.TypedTree.{TypedNode as node, TypedLean as at, TypedStmt as stmt, TypedInit as init}
use Rattle.ob_meaning.specs.ExampleTrees.{int_type, char_type, char_pointer, int, number, as_char, as_int, digit, place, read, past, before, pointer_to, element, pointed, built_in_call, malloc, set, put, put_digit, free_local, main_of, zero_object, program_of, simple}

abbrev pub return_zero : List TypedStmt
return_zero = stmt.Return (Some (number 0)) ∷ []

abbrev pub two_chars : PlainType
two_chars = Array char_type 2

-- ---- out of bounds

-- char a[2]; putchar('0' + a[5]); five times
abbrev pub overrun_read : TypedProgram
overrun_read =
    simple (two_chars ∷ []) 31
    (put_digit (element 0 5) ∷ put_digit (element 0 5) ∷ put_digit (element 0 5) ∷ put_digit (element 0 5) ∷ put_digit (element 0 5) ∷ return_zero)

-- char a[2]; a[100] = 7; putchar('0' + a[100]);
abbrev pub stray_store : TypedProgram
stray_store =
    simple (two_chars ∷ []) 12
    (set char_type (element 0 100) (as_char (number 7)) ∷ put_digit (element 0 100) ∷ return_zero)

-- char a[2], b[2]; a[0] = 65; b[0] = 66; a[16] = 88; putchar(a[0]); putchar(b[0]); with static a and b
abbrev pub static_element : ℕ → ℕ → TypedLean
static_element number n = past (at.Static number) 1 n

abbrev pub neighbours : TypedProgram
neighbours =
    program_of [] (zero_object two_chars ∷ zero_object two_chars ∷ [])
    (main_of [] 24
    (set char_type (static_element 0 0) (as_char (number 65))
    ∷ set char_type (static_element 1 0) (as_char (number 66))
    ∷ set char_type (static_element 0 16) (as_char (number 88))
    ∷ put (as_int (read char_type (static_element 0 0))) ∷ put (as_int (read char_type (static_element 1 0))) ∷ return_zero) ∷ [])

-- char a[2]; char *p; p = a + 100; p = p - 99; *p = 'Z'; putchar(a[1]);
abbrev pub there_and_back : TypedProgram
there_and_back =
    simple (two_chars ∷ char_pointer ∷ []) 19
    (set char_pointer (at.Local 1) (pointer_to char_type (past (at.Local 0) 1 100))
    ∷ set char_pointer (at.Local 1) (pointer_to char_type (before (pointed char_type 1) 1 99))
    ∷ set char_type (pointed char_type 1) (as_char (number 90))
    ∷ put (as_int (read char_type (element 0 1))) ∷ return_zero)

-- char a[2], b[2]; putchar('0' + (a + 100 == a + 100)); putchar('0' + (a + 2 == b));
abbrev pub equal : TypedExpr → TypedExpr → TypedExpr
equal a b = int (node.PtrCompare relation.Eq a b)

abbrev pub equality : TypedProgram
equality =
    simple (two_chars ∷ two_chars ∷ []) 17
    (put (digit (equal (pointer_to char_type (past (at.Local 0) 1 100)) (pointer_to char_type (past (at.Local 0) 1 100))))
    ∷ put (digit (equal (pointer_to char_type (past (at.Local 0) 1 2)) (pointer_to char_type (at.Local 1)))) ∷ return_zero)

-- char a[2]; char *p; p = a + 100; putchar(65); p = a + 101; putchar(66);
abbrev pub many_pointers : TypedProgram
many_pointers =
    simple (two_chars ∷ char_pointer ∷ []) 15
    (set char_pointer (at.Local 1) (pointer_to char_type (past (at.Local 0) 1 100)) ∷ put (number 65)
    ∷ set char_pointer (at.Local 1) (pointer_to char_type (past (at.Local 0) 1 101)) ∷ put (number 66) ∷ return_zero)

-- char a[2]; char *p; p = a + 4611686018427387905;
abbrev pub far_away : TypedProgram
far_away =
    simple (two_chars ∷ char_pointer ∷ []) 6
    (set char_pointer (at.Local 1) (pointer_to char_type (past (at.Local 0) 1 4611686018427387905)) ∷ return_zero)

-- int *p = 0; *p = 5; putchar('0' + *p);
abbrev pub through_null : TypedProgram
through_null =
    simple (Pointer int_type ∷ []) 11
    (stmt.Init 0 (init.Value (Typed 1 (Pointer int_type) node.Null)) ∷ set int_type (pointed int_type 0) (number 5)
    ∷ put (digit (read int_type (pointed int_type 0))) ∷ return_zero)

-- char a[8]; int *q; q = (int *)(a + 1); *q = 5; putchar('0' + a[1]);
abbrev pub ill_aligned : TypedProgram
ill_aligned =
    simple (Array char_type 8 ∷ Pointer int_type ∷ []) 18
    (set (Pointer int_type) (at.Local 1) (pointer_to int_type (past (at.Local 0) 1 1))
    ∷ set int_type (pointed int_type 1) (number 5) ∷ put_digit (element 0 1) ∷ return_zero)

-- int a[2]; a[10] = 5; a[20] = 6; putchar('0' + a[10]);
abbrev pub int_element : ℕ → TypedLean
int_element n = past (at.Local 0) 4 n

abbrev pub two_stores : List TypedStmt
two_stores = set int_type (int_element 10) (number 5) ∷ set int_type (int_element 20) (number 6) ∷ []

abbrev pub dropping : TypedProgram
dropping =
    simple (Array int_type 2 ∷ []) 17 (two_stores ++ put (digit (read int_type (int_element 10))) ∷ return_zero)

-- int a[2]; a[10] = 5; a[20] = 6; a[10]; a[30] = 7; putchar('0' + a[10]); putchar('0' + a[20]);
abbrev pub recent_use : TypedProgram
recent_use =
    simple (Array int_type 2 ∷ []) 31
    (two_stores
    ++ stmt.Expr (read int_type (int_element 10)) ∷ set int_type (int_element 30) (number 7)
    ∷ put (digit (read int_type (int_element 10))) ∷ put (digit (read int_type (int_element 20))) ∷ return_zero)

-- struct {char c[8]; char *p;} s; s.p = s.c; s.c[8] = 1; if (s.p == 0) putchar('n');
abbrev pub chars_and_pointer : PlainStructs
chars_and_pointer =
    record { complete = true; members = record { name = 99 ∷ []; ty = Array char_type 8 } ∷ record { name = 112 ∷ []; ty = char_pointer } ∷ [] } ∷ []

abbrev pub null : TypedExpr
null = Typed 1 char_pointer node.Null

abbrev pub lost_pointer : TypedProgram
lost_pointer =
    program_of chars_and_pointer []
    (main_of (Struct 0 ∷ []) 19
    (set char_pointer (at.Member (at.Local 0) 8) (pointer_to char_type (at.Member (at.Local 0) 0))
    ∷ set char_type (past (at.Member (at.Local 0) 0) 1 8) (as_char (number 1))
    ∷ stmt.If (equal (read char_pointer (at.Member (at.Local 0) 8)) null) (put (number 110)) ∷ return_zero) ∷ [])

-- ---- granules outside of objects

-- int a[2]; a[-1] = 5; a[-4] = 7; putchar('0' + a[-1]); putchar('0' + a[-4]);
abbrev pub int_before : ℕ → TypedLean
int_before n = before (at.Local 0) 4 n

abbrev pub negative : TypedProgram
negative =
    simple (Array int_type 2 ∷ []) 25
    (set int_type (int_before 1) (number 5) ∷ set int_type (int_before 4) (number 7) ∷ put (digit (read int_type (int_before 1)))
    ∷ put (digit (read int_type (int_before 4))) ∷ return_zero)

-- char a[2]; a[8] = 1; putchar('0' + *(int *)(a + 8)); putchar('0' + a[8]); a[9] = a[10] = a[11] = 0; putchar('0' + *(int *)(a + 8));
abbrev pub int_at_eight : TypedExpr
int_at_eight = read int_type (past (at.Local 0) 1 8)

abbrev pub set_char : ℕ → ℕ → TypedStmt
set_char n value = set char_type (element 0 n) (as_char (number value))

abbrev pub partly_set : TypedProgram
partly_set =
    simple (two_chars ∷ []) 42
    (set_char 8 1 ∷ put (digit int_at_eight) ∷ put_digit (element 0 8) ∷ set_char 9 0 ∷ set_char 10 0 ∷ set_char 11 0
    ∷ put (digit int_at_eight) ∷ return_zero)

-- char *v[1]; v[2] = (char *)v; putchar('0' + (v[2] == (char *)v)); *(int *)(v + 2) = 9; putchar('0' + (v[2] == 0)); putchar('0' + *(int *)(v + 2));
abbrev pub kept_pointer : TypedLean
kept_pointer = past (at.Local 0) 8 2

abbrev pub pointer_outside : TypedProgram
pointer_outside =
    simple (Array char_pointer 1 ∷ []) 36
    (set char_pointer kept_pointer (pointer_to char_type (at.Local 0))
    ∷ put (digit (equal (read char_pointer kept_pointer) (pointer_to char_type (at.Local 0))))
    ∷ set int_type kept_pointer (number 9) ∷ put (digit (equal (read char_pointer kept_pointer) null))
    ∷ put (digit (read int_type kept_pointer)) ∷ return_zero)

-- ---- the heap

-- int *p; p = malloc(6); p[1] = 9; putchar('0' + p[1]);
abbrev pub last_granule : TypedProgram
last_granule =
    simple (Pointer int_type ∷ []) 16
    (set (Pointer int_type) (at.Local 0) (malloc int_type 6) ∷ set int_type (past (pointed int_type 0) 4 1) (number 9)
    ∷ put (digit (read int_type (past (pointed int_type 0) 4 1))) ∷ return_zero)

-- char *p, *q, *r; p = malloc(3); q = malloc(3); p[0] = 65; q[0] = 66; free(p); r = malloc(3); r[0] = 67;
-- putchar(q[0]); putchar(r[0]);
abbrev pub first_char : ℕ → TypedLean
first_char local = past (pointed char_type local) 1 0

abbrev pub first_fit : TypedProgram
first_fit =
    simple (char_pointer ∷ char_pointer ∷ char_pointer ∷ []) 38
    (set char_pointer (at.Local 0) (malloc char_type 3) ∷ set char_pointer (at.Local 1) (malloc char_type 3)
    ∷ set char_type (first_char 0) (as_char (number 65)) ∷ set char_type (first_char 1) (as_char (number 66)) ∷ free_local 0
    ∷ set char_pointer (at.Local 2) (malloc char_type 3) ∷ set char_type (first_char 2) (as_char (number 67))
    ∷ put (as_int (read char_type (first_char 1))) ∷ put (as_int (read char_type (first_char 2))) ∷ return_zero)

-- char *p; p = malloc(16); putchar('0' + (p != 0)); p = malloc(0); putchar('0' + (p != 0));
abbrev pub put_found : TypedStmt
put_found = put (digit (int (node.PtrCompare relation.Ne (read char_pointer (at.Local 0)) null)))

abbrev pub full_heap : TypedProgram
full_heap =
    simple (char_pointer ∷ []) 21
    (set char_pointer (at.Local 0) (malloc char_type 16) ∷ put_found ∷ set char_pointer (at.Local 0) (malloc char_type 0) ∷ put_found ∷ return_zero)

-- on lines 3 to 6: p = malloc(4); putchar(65); free(p); *p = 1; with char *p
abbrev pub use_after_free : TypedProgram
use_after_free =
    simple (char_pointer ∷ []) 12
    (set char_pointer (at.Local 0) (malloc char_type 4) ∷ put (number 65) ∷ free_local 0
    ∷ stmt.Expr (Typed 6 char_type (node.Assign (place char_type (pointed char_type 0)) (as_char (number 1)))) ∷ return_zero)

-- char a[2]; free(a); putchar(65);
abbrev pub stray_free : TypedProgram
stray_free =
    simple (two_chars ∷ []) 5
    (stmt.Expr (built_in_call PlainType.Void builtin.Free (pointer_to PlainType.Void (at.Local 0) ∷ [])) ∷ put (number 65) ∷ return_zero)

-- ---- control

-- putchar(65); putchar(1 / 0);
abbrev pub division : TypedProgram
division =
    simple [] 7
    (put (number 65) ∷ put (int (node.Arith op.Div type.Int (number 1) (number 0))) ∷ return_zero)

-- while (1);
abbrev pub endless : TypedProgram
endless = simple [] 2 (stmt.While (number 1) stmt.Empty ∷ return_zero)

-- char a[1048576];
abbrev pub big_object : TypedProgram
big_object = simple (Array char_type 1048576 ∷ []) 2 return_zero

-- int c; while ((c = getchar()) != EOF) putchar(c);
abbrev pub echo : TypedProgram
echo =
    simple (int_type ∷ []) 10
    (stmt.While
    (int (node.Compare relation.Ne (int (node.Assign (place int_type (at.Local 0)) (built_in_call int_type builtin.GetChar []))) (int (node.Num (negsuc 0)))))
    (put (read int_type (at.Local 0))) ∷ return_zero)
