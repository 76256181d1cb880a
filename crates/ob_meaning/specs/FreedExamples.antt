-- Small programs about heap objects that are freed and used again, and about what shows of a run.
use Rattle.std.specs.Prelude.{ℕ, false, true, List, [], ◌∷◌, Some}
use Rattle.ob_words.specs.declared.types.Relation.TheVariants as relation
use Rattle.ob_tree.specs.Types.{PlainType}
use Rattle.ob_tree.specs.Types.PlainType.{Array}
use Rattle.ob_typed.specs.declared.names.VarName.{VarName}
use Rattle.ob_typed.specs.TypedTree.{TypedExpr, TypedFunction, TypedLean, TypedObject, TypedProgram, TypedStmt}
use Rattle.ob_typed.specs.TypedTree.{TypedLean as at, TypedStmt as stmt, TypedInit as init}
use Rattle.ob_meaning.specs.ControlExamples.{call_of}
use Rattle.ob_meaning.specs.Examples.{null, put_found, return_zero, two_chars}
use Rattle.ob_meaning.specs.ExampleTrees.{as_char, char_pointer, char_type, element, free_local, function_of, int_type, main_of, malloc, no_name, number, past, pointed, pointer_to, put, put_digit, read, set, simple}
use Rattle.ob_meaning.specs.RuleExamples.{compared, difference}

-- p[n] of a local `char *p`
abbrev pub char_at : ℕ → ℕ → TypedLean
char_at local n = past (pointed char_type local) 1 n

-- char *p; p = malloc(16); free(p); p = malloc(0); putchar('0' + (p != 0));
abbrev pub block_again : TypedProgram
block_again =
    simple (char_pointer ∷ []) 16
    (set char_pointer (at.Local 0) (malloc char_type 16) ∷ free_local 0 ∷ set char_pointer (at.Local 0) (malloc char_type 0) ∷ put_found ∷ return_zero)

-- char *p; p = malloc(4); free(p); free(p); p = p + 100; p = p - 98; putchar('0' + *p);
abbrev pub pointer_sum : TypedLean → TypedStmt
pointer_sum lean = set char_pointer (at.Local 0) (pointer_to char_type lean)

abbrev pub freed_twice : TypedProgram
freed_twice =
    simple (char_pointer ∷ []) 24
    (set char_pointer (at.Local 0) (malloc char_type 4) ∷ free_local 0 ∷ free_local 0 ∷ pointer_sum (char_at 0 100)
    ∷ pointer_sum (at.Slide (pointed char_type 0) 1 true false (number 98)) ∷ put_digit (pointed char_type 0) ∷ return_zero)

-- char *p; p = malloc(4); p[100] = 5; free(p); putchar('0' + p[100]);
abbrev pub freed_outside : TypedProgram
freed_outside =
    simple (char_pointer ∷ []) 20
    (set char_pointer (at.Local 0) (malloc char_type 4) ∷ set char_type (char_at 0 100) (as_char (number 5)) ∷ free_local 0
    ∷ put_digit (char_at 0 100) ∷ return_zero)

-- char *p, *q; p = malloc(4); free(p); q = p + 2; putchar('0' + (p < q)); putchar('0' + (q - p)); putchar('0' + (p == q));
abbrev pub pointer_local : ℕ → TypedExpr
pointer_local i = read char_pointer (at.Local i)

abbrev pub freed_compared : TypedProgram
freed_compared =
    simple (char_pointer ∷ char_pointer ∷ []) 30
    (set char_pointer (at.Local 0) (malloc char_type 4) ∷ free_local 0 ∷ set char_pointer (at.Local 1) (pointer_to char_type (char_at 0 2))
    ∷ compared relation.Lt (pointer_local 0) (pointer_local 1) ∷ difference (pointer_local 1) (pointer_local 0)
    ∷ compared relation.Eq (pointer_local 0) (pointer_local 1) ∷ return_zero)

-- char *p, *q, a[2]; p = malloc(4); q = p + 100; free(p); putchar(65); q = a + 50; putchar(66);
abbrev pub pair_of_freed : TypedProgram
pair_of_freed =
    simple (char_pointer ∷ char_pointer ∷ two_chars ∷ []) 21
    (set char_pointer (at.Local 0) (malloc char_type 4) ∷ set char_pointer (at.Local 1) (pointer_to char_type (char_at 0 100)) ∷ free_local 0
    ∷ put (number 65) ∷ set char_pointer (at.Local 1) (pointer_to char_type (past (at.Local 2) 1 50)) ∷ put (number 66) ∷ return_zero)

-- char *p, a[2]; p = malloc(4); p[100] = 5; free(p); a[100] = 6; putchar('0' + a[100]);
abbrev pub granule_of_freed : TypedProgram
granule_of_freed =
    simple (char_pointer ∷ two_chars ∷ []) 25
    (set char_pointer (at.Local 0) (malloc char_type 4) ∷ set char_type (char_at 0 100) (as_char (number 5)) ∷ free_local 0
    ∷ set char_type (element 1 100) (as_char (number 6)) ∷ put_digit (element 1 100) ∷ return_zero)

-- ---- what shows

-- int n = 3; char *s = "x"; int a[2]; int f(int i) { char *q = 0; char c = 'y'; while (i); return 0; }
-- int main(void) { return f(5); } and the same with f(0)
abbrev pub named : ℕ → VarName
named c = record { name = c ∷ []; line = 1 }

abbrev pub number_object : VarName → PlainType → List ℕ → TypedObject
number_object name ty bytes = record { name = name; ty = ty; image = record { bytes = bytes; pointers = [] } }

abbrev pub pointer_object : TypedObject
pointer_object =
    record { name = named 115; ty = char_pointer; image = record { bytes = []; pointers = record { at = 0; target = 2; offset = 0 } ∷ [] } }

abbrev pub waiting : TypedFunction
waiting =
    record
    (function_of int_type 1 (int_type ∷ char_pointer ∷ char_type ∷ []) 4
    (stmt.Init 1 (init.Value null) ∷ stmt.Init 2 (init.Value (as_char (number 121))) ∷ stmt.While (read int_type (at.Local 0)) stmt.Empty ∷ return_zero)) {
      names = named 105 ∷ named 113 ∷ named 99 ∷ [];
    }

abbrev pub shown : ℕ → TypedProgram
shown n =
    record {
      structs = [];
      statics = number_object (named 110) int_type (3 ∷ []) ∷ pointer_object ∷ number_object no_name two_chars (120 ∷ []) ∷ number_object (named 97) (Array int_type 2) [] ∷ [];
      functions = waiting ∷ main_of [] 2 (stmt.Return (Some (call_of 0 (number n ∷ []))) ∷ []) ∷ [];
      main = 1;
    }
