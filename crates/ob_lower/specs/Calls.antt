-- Calls (C99 6.5.2.2). The arguments stand in free words one after another, and the result comes where it is wanted. A function without
-- expressions gives what is in its word 1, and the call of one makes 0 of it.
use Rattle.std.specs.Prelude.{ℕ, zero, suc, pos, List, [], ◌∷◌, ◌++◌, slice_index_or}
use Rattle.ob_words.specs.declared.types.IntType.TheVariants.{Char, Int, ULong}
use Rattle.ob_typed.specs.declared.names.Builtin.{Builtin}
use Rattle.ob_typed.specs.declared.names.Builtin.TheVariants as builtin
use Rattle.ob_code.specs.declared.instructions.Instr.{Instr}
use Rattle.ob_code.specs.declared.instructions.Instr.TheVariants as instr
use Rattle.ob_meaning.specs.Setup.{no_function}
use Rattle.ob_lower.specs.Homes.{Context}
use Rattle.ob_lower.specs.Instructions.{Operand, Want, finish, number_code}
use Rattle.ob_lower.specs.Numbers.{Reading, low, whole}
use Rattle.ob_lower.specs.Operands.{Pair, operator}

-- what has no value gives 0, which nothing uses
abbrev pub effect_code : Want → List Instr → List Instr
effect_code want effect = effect ++ number_code want (pos 0)

abbrev pub call_by : (nodes : ℕ) → ℕ → List Instr → Want → ℕ → List Instr
call_by zero f arguments want d = effect_code want (arguments ++ instr.Call d d (pos f) ∷ [])
call_by (suc n) f arguments want d = finish want d arguments (λ t. instr.Call t d (pos f))

abbrev pub call_code : Context → ℕ → List Instr → Want → ℕ → List Instr
call_code c f arguments want d = call_by (slice_index_or c.functions f no_function).nodes f arguments want d

-- ---- built-in functions (7.19.7, 7.20.3, 7.20.4)

abbrev pub argument_reading : Builtin → Reading
argument_reading builtin.GetChar = whole
argument_reading builtin.PutChar = low Char
argument_reading builtin.Malloc = low ULong
argument_reading builtin.Calloc = low ULong
argument_reading builtin.Free = whole
argument_reading builtin.Exit = low Int

abbrev pub without_argument : Builtin → Want → ℕ → List Instr
without_argument builtin.GetChar want d = finish want d [] (λ t. instr.GetChar t)
without_argument _ want d = []

abbrev pub one_argument : ℕ → Builtin → Operand → Want → ℕ → List Instr
one_argument line builtin.PutChar o want d = finish want d o.code (λ t. instr.PutChar t o.word)
one_argument line builtin.Malloc o want d = finish want d o.code (λ t. instr.Malloc t o.word)
one_argument line builtin.Free o want d = effect_code want (o.code ++ instr.Free line o.word ∷ [])
one_argument line builtin.Exit o want d = effect_code want (o.code ++ instr.Exit o.word ∷ [])
one_argument line _ o want d = []

abbrev pub two_arguments : Builtin → Pair → Want → ℕ → List Instr
two_arguments builtin.Calloc p want d = operator want d p (λ t x y. instr.Calloc t x y)
two_arguments _ p want d = []
