-- Laws of single rules, by example programs that run as the others do.
use Rattle.std.specs.Prelude.{pos, [], ◌∷◌}
use Rattle.ob_model.specs.declared.endings.Ending.TheVariants.{Stack}
use Rattle.ob_model.specs.declared.strays.Act.TheVariants as act
use Rattle.ob_model.specs.Accesses.{stray_event}
use Rattle.ob_model.specs.Endings.{plain}
use Rattle.ob_meaning.specs.ExampleRuns.{Gives, Prints, run_under}
use Rattle.ob_meaning.specs.RuleExamples as examples
use Rattle.ob_meaning.specs.World.{vanish}

-- a remainder has the sign of its left operand (C99 6.5.5); a shift's count is taken modulo the width, and shifting a negative
-- number right keeps its sign
abbrev pub OperatorsCompute : Type 0
OperatorsCompute =
    Prints (run_under vanish examples.operators) (49 ∷ 52 ∷ 50 ∷ 55 ∷ 53 ∷ 56 ∷ 52 ∷ 50 ∷ 50 ∷ 53 ∷ []) [] 0

-- one of the two statements of an `if` runs
abbrev pub ElseIsTheOther : Type 0
ElseIsTheOther = Prints (run_under vanish examples.choices) (66 ∷ 67 ∷ []) [] 0

-- of a subscript with the number first, the number is evaluated first
abbrev pub SubscriptsAreInOrder : Type 0
SubscriptsAreInOrder = Prints (run_under vanish examples.subscripts) (66 ∷ 65 ∷ 121 ∷ 65 ∷ 66 ∷ 121 ∷ []) [] 0

abbrev pub StructureIsInitial : Type 0
StructureIsInitial = Prints (run_under vanish examples.copied_first) (49 ∷ 50 ∷ []) [] 0

-- a string that fills its array stores no final zero
abbrev pub StringFitsExactly : Type 0
StringFitsExactly = Prints (run_under vanish examples.exact_string) (97 ∷ 98 ∷ []) [] 0

abbrev pub RelationsOfPointers : Type 0
RelationsOfPointers =
    Prints (run_under vanish examples.relations) (49 ∷ 48 ∷ 48 ∷ 49 ∷ 48 ∷ 49 ∷ 48 ∷ 48 ∷ []) [] 0

-- pointers into two objects are in order of the objects, null comes first, and the difference of the two is 0
abbrev pub TwoObjectsAreOrdered : Type 0
TwoObjectsAreOrdered = Prints (run_under vanish examples.two_objects) (49 ∷ 48 ∷ 49 ∷ 48 ∷ 50 ∷ []) [] 0

-- `calloc` asks for the exact product: 2^64 bytes aren't found, and 4 * 4 bytes fill a heap of 32
abbrev pub ProductIsExact : Type 0
ProductIsExact = Prints (run_under vanish examples.product) (48 ∷ 49 ∷ 48 ∷ 48 ∷ []) [] 0

abbrev pub InnerFreeIsTold : Type 0
InnerFreeIsTold =
    Prints (run_under vanish examples.inner_free) (65 ∷ []) (stray_event 1 act.Free 2 (pos 1) 0 ∷ []) 0

-- an allowance of 1,048,576 bytes is had, and one of 16 more isn't
abbrev pub StackIsFull : Type 0
StackIsFull =
    Prints (run_under vanish examples.full_stack) [] [] 0
    × Gives (run_under vanish examples.past_stack) (plain Stack) [] [] 0
