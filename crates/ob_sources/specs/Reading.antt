-- The first two stages of a source: its tokens (C99 6.4), and the program that they are (6.5 to 6.9).
use Rattle.std.specs.Prelude.{◌≡◌, ℕ, List, Ok, Err, take}
use Rattle.ob_tree.specs.Programs.{ProgramTree}
use Rattle.ob_tree.specs.declared.tokens.Token.{Token}
use Rattle.ob_tree.specs.declared.faults.LexKind.{LexKind}
use Rattle.ob_tree.specs.declared.faults.SourceFault.TheVariants as source
use Rattle.ob_tree.specs.declared.faults.SyntaxKind.{SyntaxKind}
use Rattle.ob_tree.specs.declared.faults.SyntaxKind.TheVariants as syntax
use Rattle.ob_lexer.specs.Texts.{Spells, StopsAt}
use Rattle.ob_parser.specs.Answer.{Answer, IsAnswer}
use Rattle.ob_sources.specs.declared.position.Position.{Position}
use Rattle.ob_sources.specs.Positions.{position_behind, position_at}
use Rattle.ob_sources.specs.Stages.{Outcome, Then}

-- no token can be taken at a place of the text
pub record HasLexFaultAt (text : List ℕ) (kind : LexKind) (position : Position) : Type 0 where
  pub at : ℕ
  pub stops : StopsAt text kind at
  pub position_is : position ≡ position_behind (take at text)

-- the text has these tokens, or this fault among them
abbrev pub IsLexed : (text : List ℕ) → Outcome (List Token) → Type 0
IsLexed text (Ok tokens) = Spells tokens text
IsLexed text (Err (source.Lex kind line column)) = HasLexFaultAt text kind (record { line = line; column = column })
IsLexed text (Err (source.Syntax kind line column)) = ⊥
IsLexed text (Err (source.Typing kind line column)) = ⊥
IsLexed text (Err source.Statics) = ⊥
IsLexed text (Err source.Code) = ⊥
IsLexed text (Err source.NoMemory) = ⊥

-- a fault of this kind at a token, counted from 0
abbrev pub fault_answer : SyntaxKind → ℕ → Answer
fault_answer syntax.NoTree at = Answer.NoTree at
fault_answer syntax.TooDeep at = Answer.TooDeep at

-- no program goes on with a token of the text
pub record HasSyntaxFaultAt (text : List ℕ) (tokens : List Token) (kind : SyntaxKind) (position : Position) : Type 0 where
  pub at : ℕ
  pub answered : IsAnswer tokens (fault_answer kind at)
  pub position_is : position ≡ position_at text tokens at

-- the tokens are this program, or have this fault of syntax
abbrev pub IsParsed : (text : List ℕ) → List Token → Outcome ProgramTree → Type 0
IsParsed text tokens (Ok p) = IsAnswer tokens (Answer.Parsed p)
IsParsed text tokens (Err (source.Syntax kind line column)) = HasSyntaxFaultAt text tokens kind (record { line = line; column = column })
IsParsed text tokens (Err (source.Lex kind line column)) = ⊥
IsParsed text tokens (Err (source.Typing kind line column)) = ⊥
IsParsed text tokens (Err source.Statics) = ⊥
IsParsed text tokens (Err source.Code) = ⊥
IsParsed text tokens (Err source.NoMemory) = ⊥

-- the text is this program, or has this first fault
abbrev pub IsRead : (text : List ℕ) → Outcome ProgramTree → Type 0
IsRead text = Then (IsLexed text) (IsParsed text)
