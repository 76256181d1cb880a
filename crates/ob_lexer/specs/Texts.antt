-- A source text as a run of pieces, the tokens among them with their places, and the first fault (C99 6.4).
use Rattle.std.specs.Prelude.{◌≡◌, ℕ, ◌+◌, ◌==◌, List, [], ◌∷◌, ◌++◌, length, count_by, Option, Some, None}
use Rattle.ob_tree.specs.Spaces.{last_line}
use Rattle.ob_tree.specs.Pieces.{IsLongest, IsStuck, HasFault}
use Rattle.ob_tree.specs.declared.tokens.Token.{Token}
use Rattle.ob_tree.specs.declared.tokens.TokenKind.{TokenKind}
use Rattle.ob_tree.specs.declared.tokens.Span.{Span}
use Rattle.ob_tree.specs.declared.faults.LexKind.{LexKind}
use Rattle.ob_tree.specs.declared.faults.LexKind.TheVariants as kind
use Rattle.ob_tree.specs.declared.faults.LexFault.{LexFault}
use Rattle.ob_tree.specs.declared.faults.LexFault.TheVariants as fault

-- A piece of a text: its bytes, and the token that they are or none for a space.
pub record Piece : Type 0 where
  pub text : List ℕ
  pub token : Option TokenKind

-- the text that pieces make up
abbrev pub text_of : List Piece → List ℕ
text_of [] = []
text_of (p ∷ ps) = p.text ++ text_of ps

-- Each piece is the longest that can be taken at its place, where `before` stands before the first of
-- them and `after` behind the last.
abbrev pub AreLongest : (before : List ℕ) → List Piece → (after : List ℕ) → Type 0
AreLongest before [] after = Unit {0}
AreLongest before (p ∷ ps) after =
    IsLongest before p.text (text_of ps ++ after) p.token × AreLongest (before ++ p.text) ps after

-- The place of a token behind `before`: its first and its past byte, counted from 0; its line, which is
-- one more than the line feeds before it; its column, which is one more than the bytes before it on its line.
abbrev pub span_of : (before text : List ℕ) → Span
span_of before text = record {
  start = length before;
  end = length before + length text;
  line = 1 + count_by (λ c. c == 10) before;
  column = 1 + length (last_line before);
}

abbrev pub token_of : (before text : List ℕ) → Option TokenKind → List Token
token_of before text None = []
token_of before text (Some token) = record { kind = token; span = span_of before text } ∷ []

-- the tokens among the pieces that stand behind `before`
abbrev pub tokens_of : (before : List ℕ) → List Piece → List Token
tokens_of before [] = []
tokens_of before (p ∷ ps) = token_of before p.text p.token ++ tokens_of (before ++ p.text) ps

-- The text is a run of longest pieces, and these are the tokens among them.
pub record Spells (tokens : List Token) (text : List ℕ) : Type 0 where
  pub pieces : List Piece
  pub text_is : text ≡ text_of pieces
  pub longest : AreLongest [] pieces []
  pub tokens_are : tokens ≡ tokens_of [] pieces

-- The first place where a run of longest pieces stops before the text ends, and the kind of fault there.
pub record StopsAt (text : List ℕ) (fault : LexKind) (at : ℕ) : Type 0 where
  pub pieces : List Piece
  pub first : ℕ
  pub rest : List ℕ
  pub text_is : text ≡ text_of pieces ++ first ∷ rest
  pub longest : AreLongest [] pieces (first ∷ rest)
  pub at_is : at ≡ length (text_of pieces)
  pub stuck : IsStuck (text_of pieces) (first ∷ rest)
  pub fault_is : HasFault (first ∷ rest) fault

abbrev pub fault_of : LexKind → ℕ → LexFault
fault_of kind.Stray at = fault.Stray at
fault_of kind.Unclosed at = fault.Unclosed at
fault_of kind.Wide at = fault.Wide at

-- the fault is that of the text; want of memory is none of the text's
abbrev pub HasLexFault : List ℕ → LexFault → Type 0
HasLexFault text (fault.Stray at) = StopsAt text kind.Stray at
HasLexFault text (fault.Unclosed at) = StopsAt text kind.Unclosed at
HasLexFault text (fault.Wide at) = StopsAt text kind.Wide at
HasLexFault text fault.NoMemory = Unit {0}
