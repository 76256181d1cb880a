-- Code as a list of instructions. A jump in it holds how far it goes, from itself on, so a piece of code is the same wherever it
-- stands, and what a jump goes over is the length of a list. Where code gets its place, each jump gets the place that it goes to.
use Rattle.std.specs.Prelude.{ℕ, ◌+◌, ◌==◌, Bool, true, false, ℤ, pos, ◌+ℤ◌, neg_ℤ, List, [], ◌∷◌, ◌++◌, if◌then◌else◌}
use Rattle.ob_words.specs.declared.types.IntType.TheVariants.{Long}
use Rattle.ob_words.specs.Conversion.{convert}
use Rattle.ob_code.specs.declared.instructions.Instr.{Instr}
use Rattle.ob_code.specs.declared.instructions.Instr.TheVariants as instr

-- ---- jumps

-- over the next n instructions: always, and where it is so whether a word is other than 0
abbrev pub skip : ℕ → Instr
skip n = instr.Jump (pos (n + 1))

abbrev pub jump_if : Bool → ℕ → ℤ → Instr
jump_if true w by = instr.JumpNonzero w by
jump_if false w by = instr.JumpZero w by

abbrev pub skip_if : Bool → ℕ → ℕ → Instr
skip_if truth w n = jump_if truth w (pos (n + 1))

-- to the first of the n instructions before
abbrev pub back : ℕ → ℤ
back n = neg_ℤ (pos n)

-- an instruction at a place, and code from a place on
abbrev pub placed : ℕ → Instr → Instr
placed at (instr.Jump by) = instr.Jump (pos at +ℤ by)
placed at (instr.JumpZero w by) = instr.JumpZero w (pos at +ℤ by)
placed at (instr.JumpNonzero w by) = instr.JumpNonzero w (pos at +ℤ by)
placed at i = i

abbrev pub placed_from : ℕ → List Instr → List Instr
placed_from at [] = []
placed_from at (i ∷ is) = placed at i ∷ placed_from (at + 1) is

-- ---- what is wanted of an expression

-- its value in a word, or nothing
pub data Want : Type 0 where
  into : (word : ℕ) → Want
  dropped : Want

abbrev pub is_wanted : Want → Bool
is_wanted (into t) = true
is_wanted dropped = false

-- the word that the last instruction writes, where d is a free word
abbrev pub target : Want → ℕ → ℕ
target (into t) d = t
target dropped d = d

abbrev pub finish : Want → ℕ → List Instr → (ℕ → Instr) → List Instr
finish want d front last = front ++ last (target want d) ∷ []

-- the value stands in a word already, which may be the one where it is wanted
abbrev pub move : (t w : ℕ) → List Instr
move t w = if t == w then [] else instr.Move t w ∷ []

abbrev pub stands : Want → List Instr → ℕ → List Instr
stands (into t) front w = front ++ move t w
stands dropped front w = front

-- a number; the machine takes it modulo 2 ^ 64
abbrev pub set : ℕ → ℤ → Instr
set t n = instr.Set t (convert Long n)

abbrev pub number_code : Want → ℤ → List Instr
number_code (into t) n = set t n ∷ []
number_code dropped n = []

-- ---- operands

-- code, and the word in which a value stands after it
pub record Operand : Type 0 where
  pub code : List Instr
  pub word : ℕ

abbrev pub in_word : ℕ → Operand
in_word w = record { code = []; word = w }

abbrev pub after : List Instr → Operand → Operand
after front o = record { code = front ++ o.code; word = o.word }

-- the free word, with the value of an expression of this code
abbrev pub in_free : (Want → ℕ → List Instr) → ℕ → Operand
in_free code d = record { code = code (into d) d; word = d }

-- the next free word: an operand stands in the free word d, in the word of a variable, or in the zero word
abbrev pub free_after : Operand → ℕ → ℕ
free_after o d = if o.word == d then d + 1 else d
