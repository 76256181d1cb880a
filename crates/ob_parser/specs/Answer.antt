-- The answer that the parser of programs owes for a list of tokens.
use Rattle.std.specs.Prelude.{ℕ, ◌≤◌, ◌<◌, List, length, Result, Ok, Err}
use Rattle.ob_tree.specs.declared.faults.SyntaxFault.{SyntaxFault}
use Rattle.ob_tree.specs.declared.faults.SyntaxFault.TheVariants as fault
use Rattle.ob_tree.specs.declared.programs.Program.{Program}
use Rattle.ob_tree.specs.declared.tokens.Token.{Token}
use Rattle.ob_tree.specs.Programs.{ProgramTree}
use Rattle.ob_tree.specs.ProgramPaths.{height_program}
use Rattle.ob_tree.specs.ProgramPlaces.{PlacedProgram}
use Rattle.ob_tree.specs.ProgramView.{program_tree}
use Rattle.ob_tree.specs.Fronts.{greatest_path, kinds, lines, within}
use Rattle.ob_tree.specs.ProgramFronts.{FrontProgram, DeepFrontProgram, IsProgram, IsTreeOf}
use Rattle.ob_tree.specs.Verdicts.{Verdict, IsVerdict}

pub data Answer : Type 0 where
  Parsed : (program : ProgramTree) → Answer
  NoTree : (at : ℕ) → Answer
  TooDeep : (at : ℕ) → Answer

-- i is the least place without a front, that behind the last token included
pub record IsFirst (tokens : List Token) (i : ℕ) : Type 0 where
  pub within : i ≤ length tokens
  pub before : (j : ℕ) → j < i → FrontProgram tokens j
  pub without : FrontProgram tokens i → ⊥

-- The answer is the program that the tokens are, if its paths keep the limit; else the first place where no program
-- that keeps the limit goes on: too deep where a program goes on there that doesn't.
abbrev pub IsAnswer : List Token → Answer → Type 0
IsAnswer tokens (Answer.Parsed p) = IsTreeOf tokens p × (height_program p ≤ greatest_path)
IsAnswer tokens (Answer.NoTree i) = IsFirst tokens i × (DeepFrontProgram tokens i → ⊥)
IsAnswer tokens (Answer.TooDeep i) = IsFirst tokens i × DeepFrontProgram tokens i

-- the verdict on how far programs go on is right
abbrev pub IsProgramVerdict : List Token → Verdict ProgramTree → Type 0
IsProgramVerdict tokens v =
    IsVerdict (FrontProgram tokens) (DeepFrontProgram tokens) 0 (length tokens) (λ i p. IsProgram (within 0) (kinds tokens 0 i) p)
    (PlacedProgram (lines tokens)) v

-- what the parser gives: the right answer, or want of memory
abbrev pub ParsedProgram : List Token → Result Program SyntaxFault → Type 0
ParsedProgram tokens (Ok p) = IsAnswer tokens (Answer.Parsed (program_tree p))
ParsedProgram tokens (Err (fault.NoTree i)) = IsAnswer tokens (Answer.NoTree i)
ParsedProgram tokens (Err (fault.TooDeep i)) = IsAnswer tokens (Answer.TooDeep i)
ParsedProgram tokens (Err fault.NoMemory) = Unit {0}
