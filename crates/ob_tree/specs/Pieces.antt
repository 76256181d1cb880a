-- Pieces of a text: tokens and the spaces between them (C99 6.4). A place in a text is what stands before
-- it and what stands from it on; a piece that is taken there is the first bytes of the latter.
use Rattle.std.specs.Prelude.{◌≡◌, ℕ, ◌≤◌, ◌⊎◌, List, [], ◌∷◌, ◌++◌, length, Option, Some, None, IsTrue}
use Rattle.ob_tree.specs.Bytes.{is_white}
use Rattle.ob_tree.specs.Words.{word_text, IsQualifier, IsName}
use Rattle.ob_tree.specs.Signs.{IsSign}
use Rattle.ob_tree.specs.Constants.{IsNumber, IsWideConstant}
use Rattle.ob_tree.specs.Characters.{IsCharacter, IsString, IsOpenQuote, IsWideQuote}
use Rattle.ob_tree.specs.Spaces.{IsComment, IsInclude, IsOpenComment}
use Rattle.ob_tree.specs.declared.tokens.TokenKind.{TokenKind}
use Rattle.ob_tree.specs.declared.tokens.TokenKind.TheVariants as kind
use Rattle.ob_tree.specs.declared.faults.LexKind.{LexKind}
use Rattle.ob_tree.specs.declared.faults.LexKind.TheVariants as fault

-- one white-space byte
pub record IsWhite (text : List ℕ) : Type 0 where
  pub byte : ℕ
  pub text_is : text ≡ byte ∷ []
  pub white : IsTrue (is_white byte)

-- The text can be taken as a space.
abbrev pub IsSpace : (before text after : List ℕ) → Type 0
IsSpace before text after =
    IsWhite text ⊎ (IsComment text after ⊎ (IsQualifier text ⊎ IsInclude before text after))

-- The text can be taken as this token.
abbrev pub IsToken : (text after : List ℕ) → TokenKind → Type 0
IsToken text after (kind.Word keyword) = text ≡ word_text keyword
IsToken text after (kind.Name name) = (text ≡ name) × IsName name
IsToken text after (kind.Number value ty) = IsNumber text after value ty ⊎ IsCharacter text value ty
IsToken text after (kind.Str bytes) = IsString text bytes
IsToken text after (kind.Sign sign) = IsSign text after sign

-- The text can be taken as a piece: as a space, or as this token.
abbrev pub IsPiece : (before text after : List ℕ) → Option TokenKind → Type 0
IsPiece before text after None = IsSpace before text after
IsPiece before text after (Some token) = IsToken text after token

-- The piece is the longest that can be taken at its place (C99 6.4, paragraph 4).
pub record IsLongest (before text after : List ℕ) (piece : Option TokenKind) : Type 0 where
  pub possible : IsPiece before text after piece
  pub longest : (t a : List ℕ) (p : Option TokenKind) → t ++ a ≡ text ++ after → IsPiece before t a p → length t ≤ length text

-- Nothing can be taken here.
abbrev pub IsStuck : (before here : List ℕ) → Type 0
IsStuck before here = (t a : List ℕ) (p : Option TokenKind) → t ++ a ≡ here → IsPiece before t a p → ⊥

-- A comment, string literal or character constant begins here and doesn't end.
abbrev pub IsUnclosed : List ℕ → Type 0
IsUnclosed here = IsOpenComment here ⊎ IsOpenQuote here

-- A constant or a numeric escape is too great.
abbrev pub IsWide : List ℕ → Type 0
IsWide here = IsWideConstant here ⊎ IsWideQuote here

-- why nothing can be taken here: the first of unclosed, wide and stray that holds
abbrev pub HasFault : List ℕ → LexKind → Type 0
HasFault here fault.Unclosed = IsUnclosed here
HasFault here fault.Wide = (IsUnclosed here → ⊥) × IsWide here
HasFault here fault.Stray = (IsUnclosed here → ⊥) × (IsWide here → ⊥)
