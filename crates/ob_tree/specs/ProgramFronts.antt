-- What it means that tokens begin a program, and that they are one. For the parser's faults: the first place where
-- they begin none, or none whose paths keep the limit.
use Rattle.std.specs.Prelude.{◌≡◌, ℕ, List, length}
use Rattle.ob_tree.specs.declared.tokens.Token.{Token}
use Rattle.ob_tree.specs.declared.tokens.TokenKind.{TokenKind}
use Rattle.ob_tree.specs.Programs.{ProgramTree}
use Rattle.ob_tree.specs.ProgramSpelling.{spell_program}
use Rattle.ob_tree.specs.ProgramValid.{ValidProgram}
use Rattle.ob_tree.specs.ProgramPlaces.{PlacedProgram}
use Rattle.ob_tree.specs.ProgramPaths.{begun_program, height_program}
use Rattle.ob_tree.specs.Fronts.{kinds, lines, within, any, Begins, IsWhole, FrontOf}

-- a program begins so, and is so
abbrev pub BeginsProgram : (fits : ℕ → Type 0) (read : List TokenKind) → Type 0
BeginsProgram fits read = Begins ValidProgram spell_program begun_program fits read

abbrev pub IsProgram : (fits : ℕ → Type 0) (read : List TokenKind) → ProgramTree → Type 0
IsProgram fits read p = IsWhole ValidProgram spell_program height_program fits read p

-- For i below the length, the tokens up to and including i begin a program; for i the length, all tokens are one.
abbrev pub FrontProgram : List Token → (i : ℕ) → Type 0
FrontProgram ts i = FrontOf (BeginsProgram (within 0)) (λ read. (p : ProgramTree) × IsProgram (within 0) read p) ts 0 i

-- the same with no limit on the paths
abbrev pub DeepFrontProgram : List Token → (i : ℕ) → Type 0
DeepFrontProgram ts i = FrontOf (BeginsProgram any) (λ read. (p : ProgramTree) × IsProgram any read p) ts 0 i

-- The program is the tree of these tokens: it is valid, its nodes stand where their tokens stand, and it spells
-- their kinds.
pub record IsTreeOf (ts : List Token) (p : ProgramTree) : Type 0 where
  pub valid : ValidProgram p
  pub placed : PlacedProgram (lines ts) p
  pub spelled : spell_program p ≡ kinds ts 0 (length ts)
