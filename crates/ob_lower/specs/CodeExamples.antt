-- The code of small statements, written out by hand. In a function without parameters the zero word is 2 and the words of its plain
-- variables come after it: here an `int` i has word 3, an `int` n word 4 and an `int` s word 5, and words are free from 6 on. A jump
-- says how far it goes from itself on.
use Rattle.std.specs.Prelude.{◌≡◌, ℕ, true, false, pos, negsuc, List, [], ◌∷◌, Some}
use Rattle.ob_words.specs.declared.types.BinOp.TheVariants as op
use Rattle.ob_words.specs.declared.types.IntType.TheVariants as type
use Rattle.ob_words.specs.declared.types.Relation.TheVariants as relation
use Rattle.ob_model.specs.declared.values.LoadKind.TheVariants.{Num}
use Rattle.ob_tree.specs.Types.{PlainType, PlainStructs}
use Rattle.ob_tree.specs.Types.PlainType.{Array, Struct}
use Rattle.ob_typed.specs.TypedTree.{TypedExpr, TypedStmt}
use Rattle.ob_typed.specs.TypedTree.TypedExpr.{Typed}
use Rattle.ob_typed.specs.TypedTree.{TypedNode as node, TypedLean as at, TypedStmt as stmt, TypedInit as init}
use Rattle.ob_code.specs.declared.image.FunctionRow.{FunctionRow}
use Rattle.ob_code.specs.Frames.{frame_length}
use Rattle.ob_code.specs.declared.instructions.Instr.{Instr}
use Rattle.ob_code.specs.declared.instructions.Instr.TheVariants.{Tick, Set, Move, Binary, Compare, Jump, JumpZero, JumpNonzero, Call, Return, Static, Local, Wipe, Load, Store, Slide, SlideBy, PutChar}
use Rattle.ob_meaning.specs.ControlExamples.{call_of, int_item, items_of, two_ints}
use Rattle.ob_meaning.specs.Examples.{return_zero}
use Rattle.ob_meaning.specs.ExampleTrees.{int, int_type, main_of, number, place, plus, program_of, put, read, set, statements_of}
use Rattle.ob_lower.specs.Functions.{function_code, function_row}
use Rattle.ob_lower.specs.Statements.{stmt_code}
use Rattle.ob_lower.specs.Homes.{context_of}

-- a statement of a function with these variables, which is function 0 and has expressions
abbrev pub code_in_main : PlainStructs → List PlainType → TypedStmt → List Instr
code_in_main structs locals s = stmt_code (context_of (program_of structs [] (main_of locals 9 (s ∷ []) ∷ [])) (main_of locals 9 (s ∷ []))) s 0 0

abbrev pub three_ints : List PlainType
three_ints = int_type ∷ int_type ∷ int_type ∷ []

abbrev pub i : TypedExpr
i = read int_type (at.Local 0)

abbrev pub n : TypedExpr
n = read int_type (at.Local 1)

abbrev pub s : TypedExpr
s = read int_type (at.Local 2)

abbrev pub i_below_n : TypedExpr
i_below_n = int (node.Compare relation.Lt i n)

abbrev pub add_i : TypedStmt
add_i = set int_type (at.Local 2) (plus s i)

-- while (i < n) s = s + i;
abbrev pub CodeOfWhile : Type 0
CodeOfWhile =
    code_in_main [] three_ints (stmt.While i_below_n add_i)
    ≡ Tick ∷ Jump (pos 4) ∷ Tick ∷ Tick ∷ Binary type.Int op.Add 5 5 3 ∷ Compare type.Int relation.Lt 6 3 4 ∷ JumpNonzero 6 (negsuc 3) ∷ []

-- while (n--); whose test is the older value: six instructions a turn
abbrev pub CodeOfCountdown : Type 0
CodeOfCountdown =
    code_in_main [] three_ints
    (stmt.While (int (node.Update op.Sub type.Int true (place int_type (at.Local 1)) (number 1))) stmt.Empty)
    ≡ Tick ∷ Jump (pos 3) ∷ Tick ∷ Tick ∷ Move 6 4 ∷ Set 7 (pos 1) ∷ Binary type.Int op.Sub 4 6 7 ∷ JumpNonzero 6 (negsuc 4) ∷ []

-- main with putchar(72); return 0;
abbrev pub CodeOfHello : Type 0
CodeOfHello =
    function_code (program_of [] [] []) (main_of [] 3 (put (number 72) ∷ return_zero))
    ≡ Tick ∷ Tick ∷ Set 3 (pos 72) ∷ PutChar 3 3 ∷ Tick ∷ Return 2 ∷ Return 2 ∷ []

-- s = f(i, s + 1); where f is function 0
abbrev pub CodeOfCall : Type 0
CodeOfCall =
    code_in_main [] three_ints (set int_type (at.Local 2) (call_of 0 (i ∷ plus s (number 1) ∷ [])))
    ≡ Tick ∷ Move 6 3 ∷ Set 7 (pos 1) ∷ Binary type.Int op.Add 7 5 7 ∷ Call 5 6 (pos 0) ∷ []

-- if (i < n && s) i = 1;
abbrev pub CodeOfAnd : Type 0
CodeOfAnd =
    code_in_main [] three_ints (stmt.If (int (node.And i_below_n s)) (set int_type (at.Local 0) (number 1)))
    ≡ Tick ∷ Compare type.Int relation.Lt 6 3 4 ∷ JumpZero 6 (pos 4) ∷ JumpZero 5 (pos 3) ∷ Tick ∷ Set 3 (pos 1) ∷ []

-- a[i] = n; with an array a of `int` as the fourth variable
abbrev pub four_ints : PlainType
four_ints = Array int_type 4

abbrev pub CodeOfElement : Type 0
CodeOfElement =
    code_in_main [] (int_type ∷ int_type ∷ int_type ∷ four_ints ∷ []) (set int_type (at.Slide (at.Local 3) 4 false false i) n)
    ≡ Tick ∷ Local 6 (pos 0) ∷ Slide 7 2 3 (pos 4) ∷ Store (Num type.Int) 1 4 6 7 ∷ []

-- 1[a] = n; whose displacement is known
abbrev pub CodeOfConstantElement : Type 0
CodeOfConstantElement =
    code_in_main [] (int_type ∷ int_type ∷ int_type ∷ four_ints ∷ []) (set int_type (at.Slide (at.Local 3) 4 false true (number 1)) n)
    ≡ Tick ∷ Local 6 (pos 0) ∷ Set 7 (pos 4) ∷ Store (Num type.Int) 1 4 6 7 ∷ []

-- (i + 1)[(n + 1)[m]] = s; with a two-dimensional array m as the fourth variable: the base moves to the word after the displacement
abbrev pub two_rows : PlainType
two_rows = Array (Array int_type 2) 2

abbrev pub CodeOfNumbersFirst : Type 0
CodeOfNumbersFirst =
    code_in_main [] (int_type ∷ int_type ∷ int_type ∷ two_rows ∷ [])
    (set int_type (at.Slide (at.Slide (at.Local 3) 8 false true (plus n (number 1))) 4 false true (plus i (number 1))) s)
    ≡ Tick ∷ Set 6 (pos 1) ∷ Binary type.Int op.Add 6 3 6 ∷ Set 7 (pos 1) ∷ Binary type.Int op.Add 7 4 7
    ∷ Local 8 (pos 0) ∷ Slide 7 2 7 (pos 8) ∷ Slide 6 7 6 (pos 4) ∷ Move 7 8 ∷ Store (Num type.Int) 1 5 7 6 ∷ []

-- for (int i = 0; i < n; i = i + 1) s = s + i;
abbrev pub CodeOfFor : Type 0
CodeOfFor =
    code_in_main [] three_ints
    (stmt.For (statements_of (stmt.Init 0 (init.Value (number 0)) ∷ [])) (Some i_below_n)
    (Some (Typed 1 int_type (node.Assign (place int_type (at.Local 0)) (plus i (number 1))))) add_i)
    ≡ Tick ∷ Set 3 (pos 0) ∷ Jump (pos 6) ∷ Tick ∷ Tick ∷ Binary type.Int op.Add 5 5 3 ∷ Set 6 (pos 1) ∷ Binary type.Int op.Add 3 3 6
    ∷ Compare type.Int relation.Lt 6 3 4 ∷ JumpNonzero 6 (negsuc 5) ∷ []

-- {int a[4] = {7, 0, i}; a[i] = n;} where a is the fourth variable
abbrev pub CodeOfArray : Type 0
CodeOfArray =
    code_in_main [] (int_type ∷ int_type ∷ int_type ∷ four_ints ∷ [])
    (stmt.Block (statements_of (stmt.Init 3 (init.Items (items_of (int_item 7 ∷ int_item 0 ∷ init.Value i ∷ []))) ∷ set int_type (at.Slide (at.Local 3) 4 false false i) n ∷ [])))
    ≡ Tick ∷ Wipe (pos 0) ∷ Set 6 (pos 7) ∷ Local 7 (pos 0) ∷ Store (Num type.Int) 1 6 7 2 ∷ Local 6 (pos 0) ∷ SlideBy 6 6 (pos 4) ∷ Store (Num type.Int) 1 2 6 2
    ∷ Local 6 (pos 0) ∷ SlideBy 6 6 (pos 8) ∷ Store (Num type.Int) 1 3 6 2
    ∷ Tick ∷ Local 6 (pos 0) ∷ Slide 7 2 3 (pos 4) ∷ Store (Num type.Int) 1 4 6 7 ∷ []

-- t = v; with struct {int a; int b;} t, v alone
abbrev pub CodeOfCopy : Type 0
CodeOfCopy =
    code_in_main two_ints (Struct 0 ∷ Struct 0 ∷ [])
    (stmt.Expr (Typed 1 PlainType.Void (node.CopyStruct (place (Struct 0) (at.Local 0)) (place (Struct 0) (at.Local 1)))))
    ≡ Tick ∷ Local 3 (pos 0) ∷ Local 4 (pos 1)
    ∷ Load (Num type.Int) 1 5 4 2 ∷ Store (Num type.Int) 1 5 3 2
    ∷ Set 5 (pos 4) ∷ Load (Num type.Int) 1 5 4 5 ∷ Set 6 (pos 4) ∷ Store (Num type.Int) 1 5 3 6 ∷ []

-- for (i = 0; i < n; i = i + 1) s = s + a[i & 63]; with a static array a: twelve instructions a turn
abbrev pub masked_element : TypedExpr
masked_element = read int_type (at.Slide (at.Static 0) 4 false false (int (node.Arith op.And type.Int i (number 63))))

abbrev pub CodeOfSum : Type 0
CodeOfSum =
    code_in_main [] three_ints
    (stmt.For (statements_of (set int_type (at.Local 0) (number 0) ∷ [])) (Some i_below_n)
    (Some (Typed 1 int_type (node.Assign (place int_type (at.Local 0)) (plus i (number 1)))))
    (set int_type (at.Local 2) (plus s masked_element)))
    ≡ Tick ∷ Set 3 (pos 0) ∷ Jump (pos 11) ∷ Tick ∷ Tick ∷ Static 6 (pos 1) ∷ Set 7 (pos 63) ∷ Binary type.Int op.And 7 3 7 ∷ Slide 7 2 7 (pos 4)
    ∷ Load (Num type.Int) 1 6 6 7 ∷ Binary type.Int op.Add 5 5 6 ∷ Set 6 (pos 1) ∷ Binary type.Int op.Add 3 3 6
    ∷ Compare type.Int relation.Lt 6 3 4 ∷ JumpNonzero 6 (negsuc 10) ∷ []

-- struct {int a; int b;} t = t; and void *a[1] = {a}; each alone: what only its own initialiser names is evaluated and not stored
abbrev pub void_pointer : PlainType
void_pointer = PlainType.Pointer PlainType.Void

abbrev pub one_pointer : PlainType
one_pointer = Array void_pointer 1

abbrev pub copied_from_itself : TypedStmt
copied_from_itself = stmt.Init 0 (init.Copy (place (Struct 0) (at.Local 0)))

abbrev pub holding_itself : TypedStmt
holding_itself = stmt.Init 0 (init.Items (items_of (init.Value (Typed 1 void_pointer (node.Lean (at.Local 0))) ∷ [])))

abbrev pub CodeOfOwnCopy : Type 0
CodeOfOwnCopy = code_in_main two_ints (Struct 0 ∷ []) copied_from_itself ≡ []

abbrev pub CodeOfOwnPointer : Type 0
CodeOfOwnPointer = code_in_main [] (one_pointer ∷ []) holding_itself ≡ Local 3 (pos 0) ∷ []

-- struct {int a; int b;} t = *(struct .. *)c; with int c[1]: an object of another type is loaded, since a load may go astray
abbrev pub one_int : PlainType
one_int = Array int_type 1

abbrev pub CodeOfCastCopy : Type 0
CodeOfCastCopy =
    code_in_main two_ints (Struct 0 ∷ one_int ∷ []) (stmt.Init 0 (init.Copy (place (Struct 0) (at.Local 1))))
    ≡ Local 3 (pos 1) ∷ Load (Num type.Int) 1 4 3 2 ∷ Set 4 (pos 4) ∷ Load (Num type.Int) 1 4 3 4 ∷ []

-- so the frame of a function with no more expressions than that one name fits in what its call takes of the stack
abbrev pub row_of_main : PlainStructs → List PlainType → TypedStmt → FunctionRow
row_of_main structs locals s =
    function_row (program_of structs [] (main_of locals 1 (s ∷ []) ∷ [])) (main_of locals 1 (s ∷ [])) 0
    (function_code (program_of structs [] (main_of locals 1 (s ∷ []) ∷ [])) (main_of locals 1 (s ∷ [])))

abbrev pub FrameIs : ℕ → FunctionRow → Type 0
FrameIs n row = (frame_length row ≡ n) × (row.allowance ≡ n)

abbrev pub FramesOfOwnNames : Type 0
FramesOfOwnNames =
    FrameIs 48 (row_of_main two_ints (Struct 0 ∷ []) copied_from_itself) × FrameIs 48 (row_of_main [] (one_pointer ∷ []) holding_itself)
