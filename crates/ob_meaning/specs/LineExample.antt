-- A program that reads a line into a buffer of eight bytes and prints it:
--
--     1  #include <stdio.h>
--     2  char buf[8];
--     3  int main(void){
--     4    int c, n = 0;
--     5    while ((c = getchar()) != EOF && c != '\n') buf[n++] = c;
--     6    buf[n] = '\0';
--     7    puts(buf);
--     8    return 0;
--     9  }
--
-- `puts` is a function of the library in C, all of it on line 0:
--
--     int puts(char *s){size_t n;n=0;while(s[n]){putchar(s[n]);n=n+1;}putchar(10);return 0;}
use Rattle.std.specs.Prelude.{ℕ, false, true, pos, negsuc, List, [], ◌∷◌, ◌++◌, Some}
use Rattle.ob_words.specs.declared.types.BinOp.TheVariants as op
use Rattle.ob_words.specs.declared.types.IntType.TheVariants as type
use Rattle.ob_words.specs.declared.types.Relation.TheVariants as relation
use Rattle.ob_model.specs.declared.strays.Act.{Act}
use Rattle.ob_model.specs.declared.strays.Act.TheVariants as act
use Rattle.ob_model.specs.declared.strays.StrayEvent.{StrayEvent}
use Rattle.ob_model.specs.Accesses.{stray_event}
use Rattle.ob_model.specs.Endings.{Outcome, closed}
use Rattle.ob_tree.specs.Types.{PlainType}
use Rattle.ob_tree.specs.Types.PlainType.{Int, Array}
use Rattle.ob_typed.specs.declared.names.Builtin.TheVariants as builtin
use Rattle.ob_typed.specs.TypedTree.{TypedExpr, TypedFunction, TypedProgram, TypedStmt}
use Rattle.ob_typed.specs.TypedTree.TypedExpr.{Typed}
use Rattle.ob_typed.specs.TypedTree.TypedPlace.{Place}
use Rattle.ob_typed.specs.TypedTree.{TypedNode as node, TypedLean as at, TypedStmt as stmt, TypedInit as init}
use Rattle.ob_meaning.specs.ControlExamples.{block, local}
use Rattle.ob_meaning.specs.ExampleRuns.{Prints, example_settings}
use Rattle.ob_meaning.specs.Runs.{meaning}
use Rattle.ob_meaning.specs.ExampleTrees.{int_type, char_type, char_pointer, int, number, as_char, place, arguments_of, built_in_call, function_of, main_of, pointer_to, program_of, zero_object}
use Rattle.ob_meaning.specs.World.{Rule, vanish, kept}

-- ---- the library's function

abbrev pub size_type : PlainType
size_type = Int type.ULong

-- s[n], and n = n + 1
abbrev pub next_char : TypedExpr
next_char =
    Typed 0 char_type
    (node.Read (Place 0 char_type
    (at.Slide (at.Value (Typed 0 char_pointer (node.Read (Place 0 char_pointer (at.Local 0))))) 1 false false (Typed 0 size_type (node.Read (Place 0 size_type (at.Local 1)))))))

abbrev pub set_count : TypedExpr → TypedStmt
set_count e = stmt.Expr (Typed 0 size_type (node.Assign (Place 0 size_type (at.Local 1)) e))

abbrev pub as_size : TypedExpr → TypedExpr
as_size e = Typed 0 size_type (node.Convert type.ULong e)

abbrev pub put_char : TypedExpr → TypedStmt
put_char e = stmt.Expr (Typed 0 int_type (node.CallBuiltin builtin.PutChar (arguments_of (e ∷ []))))

abbrev pub puts : TypedFunction
puts =
    function_of int_type 1 (char_pointer ∷ size_type ∷ []) 19
    (set_count (as_size (number 0))
    ∷ stmt.While next_char
    (block (put_char (Typed 0 int_type (node.Convert type.Int next_char))
    ∷ set_count (Typed 0 size_type (node.Arith op.Add type.ULong (Typed 0 size_type (node.Read (Place 0 size_type (at.Local 1)))) (as_size (number 1)))) ∷ []))
    ∷ put_char (number 10) ∷ stmt.Return (Some (number 0)) ∷ [])

-- ---- the program

-- (c = getchar()) != EOF && c != '\n'
abbrev pub goes_on : TypedExpr
goes_on =
    int (node.And
    (int (node.Compare relation.Ne (int (node.Assign (place int_type (at.Local 0)) (built_in_call int_type builtin.GetChar []))) (int (node.Num (negsuc 0)))))
    (int (node.Compare relation.Ne (local 0) (number 10))))

-- an element of buf on a line becomes a value
abbrev pub set_element : ℕ → TypedExpr → TypedExpr → TypedStmt
set_element line index e =
    stmt.Expr (Typed line char_type (node.Assign (Place line char_type (at.Slide (at.Static 0) 1 false false index)) e))

abbrev pub reading : TypedProgram
reading =
    program_of [] (zero_object (Array char_type 8) ∷ [])
    (main_of (int_type ∷ int_type ∷ []) 23
    (stmt.Init 1 (init.Value (number 0))
    ∷ stmt.While goes_on (set_element 5 (int (node.Update op.Add type.Int true (place int_type (at.Local 1)) (number 1))) (as_char (local 0)))
    ∷ set_element 6 (local 1) (as_char (number 0))
    ∷ stmt.Expr (int (node.Call 1 (arguments_of (pointer_to char_type (at.Static 0) ∷ [])))) ∷ stmt.Return (Some (number 0)) ∷ [])
    ∷ puts ∷ [])

-- ---- its runs

-- "Frederic", then "k Sanger", then a line feed
abbrev pub first_eight : List ℕ
first_eight = 70 ∷ 114 ∷ 101 ∷ 100 ∷ 101 ∷ 114 ∷ 105 ∷ 99 ∷ []

abbrev pub last_eight : List ℕ
last_eight = 107 ∷ 32 ∷ 83 ∷ 97 ∷ 110 ∷ 103 ∷ 101 ∷ 114 ∷ []

abbrev pub read_under : Rule → Outcome
read_under rule =
    meaning reading rule example_settings (0 ∷ 1 ∷ 2 ∷ []) 0 (first_eight ++ last_eight ++ 10 ∷ []) closed 200

-- the accesses at offsets from one on
abbrev pub accesses : ℕ → Act → List ℕ → List StrayEvent
accesses line what [] = []
accesses line what (o ∷ os) = stray_event line what 1 (pos o) 1 ∷ accesses line what os

abbrev pub stores : List StrayEvent
stores =
    accesses 5 act.Store (8 ∷ 9 ∷ 10 ∷ 11 ∷ 12 ∷ 13 ∷ 14 ∷ 15 ∷ []) ++ accesses 6 act.Store (16 ∷ [])

-- what lies past the buffer is lost, and the line ends there by the manufactured value 0
abbrev pub LineIsCut : Type 0
LineIsCut = Prints (read_under vanish) (first_eight ++ 10 ∷ []) (stores ++ accesses 0 act.Load (8 ∷ [])) 1

-- it is kept outside of the buffer; each byte there is loaded twice, as the test and as what is printed
abbrev pub LineIsWhole : Type 0
LineIsWhole =
    Prints (read_under (kept 2)) (first_eight ++ last_eight ++ 10 ∷ [])
    (stores ++ accesses 0 act.Load (8 ∷ 8 ∷ 9 ∷ 9 ∷ 10 ∷ 10 ∷ 11 ∷ 11 ∷ 12 ∷ 12 ∷ 13 ∷ 13 ∷ 14 ∷ 14 ∷ 15 ∷ 15 ∷ 16 ∷ [])) 0
