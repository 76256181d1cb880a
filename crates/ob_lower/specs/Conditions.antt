-- What decides which way to go: a word that is or isn't 0, code that goes one of two ways by itself, or nothing, since it is known.
use Rattle.std.specs.Prelude.{ℕ, ◌+◌, Bool, true, false, not, ℤ, pos, List, [], ◌∷◌, ◌++◌, length, Option, Some, None}
use Rattle.ob_words.specs.declared.types.Relation.{Relation}
use Rattle.ob_words.specs.declared.types.Relation.TheVariants.{Eq, Ne}
use Rattle.std.specs.Ordering.{int_eq}
use Rattle.ob_code.specs.declared.instructions.Instr.{Instr}
use Rattle.ob_code.specs.declared.instructions.Instr.TheVariants as instr
use Rattle.ob_lower.specs.Instructions.{Operand, Want, into, dropped, jump_if, set, skip, skip_if}

pub data Condition : Type 0 where
  -- true where whether the word is other than 0 is `truth`
  tested : (truth : Bool) (o : Operand) → Condition
  -- code that goes on over the next n instructions where its truth is the given one, and else to the first of them
  decided : (code : Bool → ℕ → List Instr) → Condition
  always : (truth : Bool) → Condition

-- two truths are the same
abbrev pub is_same : Bool → Bool → Bool
is_same true truth = truth
is_same false truth = not truth

abbrev pub negated : Condition → Condition
negated (tested truth o) = tested (not truth) o
negated (decided code) = decided (λ truth n. code (not truth) n)
negated (always truth) = always (not truth)

-- ---- a condition before a choice: where its truth is the given one, it goes over the next n instructions

abbrev pub skip_always : Bool → ℕ → List Instr
skip_always true n = skip n ∷ []
skip_always false n = []

abbrev pub branch : Condition → Bool → ℕ → List Instr
branch (tested truth o) sense n = o.code ++ skip_if (is_same truth sense) o.word n ∷ []
branch (decided code) sense n = code sense n
branch (always truth) sense n = skip_always (is_same truth sense) n

-- ---- a condition at the end of a loop: code, and one jump after it that goes back where the condition is true

pub record Ending : Type 0 where
  pub code : List Instr
  pub jump : ℤ → Instr

-- a loop that never goes on again tests the zero word
abbrev pub ending_always : Bool → ℕ → ℤ → Instr
ending_always true null by = instr.Jump by
ending_always false null by = instr.JumpNonzero null by

abbrev pub ending : ℕ → Condition → Ending
ending null (tested truth o) = record { code = o.code; jump = jump_if truth o.word }
ending null (decided code) = record { code = code false 1; jump = λ by. instr.Jump by }
ending null (always truth) = record { code = []; jump = ending_always truth null }

-- ---- `&&`, which its left side decides where it is false, and `||`, where it is true (C99 6.5.13, 6.5.14)

-- how far the left side goes over the right one, whose code is n instructions, to go on over so many more
abbrev pub reach : Bool → ℕ → ℕ → ℕ
reach true n more = n + more
reach false n more = n

abbrev pub left_then : Condition → Bool → ℕ → List Instr → List Instr
left_then left decides n right = branch left decides n ++ right

abbrev pub left_before : Bool → Condition → List Instr → List Instr
left_before decides left right = left_then left decides (length right) right

abbrev pub choice_before : Bool → Condition → Bool → ℕ → List Instr → List Instr
choice_before decides left sense n right = left_then left decides (reach (is_same decides sense) (length right) n) right

abbrev pub choice : Bool → Condition → Condition → Bool → ℕ → List Instr
choice decides left right sense n = choice_before decides left sense n (branch right sense n)

abbrev pub flag_of : Bool → ℤ
flag_of true = pos 1
flag_of false = pos 0

-- the value is 0 or 1; where it is dropped, so is the right side's
abbrev pub choice_code : Bool → Condition → Condition → (Want → ℕ → List Instr) → Want → ℕ → List Instr
choice_code decides left right right_code (into t) d =
    choice decides left right decides 2 ++ set t (flag_of (not decides)) ∷ skip 1 ∷ set t (flag_of decides) ∷ []
choice_code decides left right right_code dropped d = left_before decides left (right_code dropped d)

-- ---- comparisons with 0, and with null

abbrev pub against_zero : Relation → Bool → (ℕ → Condition) → (ℕ → Condition) → ℕ → Condition
against_zero Eq true left other d = negated (left d)
against_zero Ne true left other d = left d
against_zero _ is_zero left other d = other d

-- pointers that differ aren't the same
abbrev pub by_sameness : Relation → (ℕ → Operand) → (ℕ → Operand) → ℕ → Condition
by_sameness Ne same value d = tested false (same d)
by_sameness _ same value d = tested true (value d)

-- a constant decides nothing
abbrev pub known_or : Option ℤ → (ℕ → Condition) → ℕ → Condition
known_or (Some n) other d = always (not (int_eq n (pos 0)))
known_or None other d = other d

-- ---- `?:`

abbrev pub either_way : Condition → List Instr → List Instr → List Instr
either_way test first other = branch test false (length first + 1) ++ first ++ skip (length other) ∷ other
