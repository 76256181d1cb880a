-- How the tokens of a program of the first form are read, one by one from left to right, and the instructions that are written
-- meanwhile.
use Rattle.std.specs.Prelude.{ℕ, ◌+◌, Bool, true, false, ℤ, pos, negsuc, nat_le, nat_lt, List, [], ◌∷◌, ◌++◌, codes, Option, Some, None, if◌then◌else◌}
use Rattle.std.specs.List.{fold}
use Rattle.std.specs.Str.{bytes_eq}
use Rattle.ob_words.specs.declared.types.IntType.TheVariants as type
use Rattle.ob_tree.specs.declared.tokens.TokenKind.{TokenKind}
use Rattle.ob_tree.specs.declared.tokens.TokenKind.TheVariants as kind
use Rattle.ob_tree.specs.declared.tokens.Keyword.TheVariants as word
use Rattle.ob_tree.specs.declared.tokens.Sign.{Sign}
use Rattle.ob_tree.specs.declared.tokens.Sign.TheVariants as signs
use Rattle.ob_code.specs.declared.instructions.Instr.{Instr}
use Rattle.ob_code.specs.declared.instructions.Instr.TheVariants as instr
use Rattle.ob_first.specs.declared.first_form.Piece.{Piece}
use Rattle.ob_first.specs.declared.first_form.Piece.TheVariants as piece
use Rattle.ob_first.specs.declared.first_form.Place.{Place}
use Rattle.ob_first.specs.declared.first_form.Place.TheVariants as place
use Rattle.ob_first.specs.FirstForm.{greatest_constant, most_constants}
use Rattle.ob_first.specs.FirstCode.{addend_code}

-- ---- tokens

abbrev pub named : List ℕ → Piece
named name =
    if bytes_eq name (codes "main") then piece.Main else if bytes_eq name (codes "putchar") then piece.Putchar else piece.Other

abbrev pub number : ℤ → Piece
number (pos n) = if nat_le n greatest_constant then piece.Constant n else piece.Other
number (negsuc n) = piece.Other

abbrev pub sign : Sign → Piece
sign signs.OpenParen = piece.OpenParen
sign signs.CloseParen = piece.CloseParen
sign signs.OpenBrace = piece.OpenBrace
sign signs.CloseBrace = piece.CloseBrace
sign signs.Plus = piece.Plus
sign signs.Semi = piece.Semi
sign _ = piece.Other

abbrev pub piece_of : TokenKind → Piece
piece_of (kind.Word word.Int) = piece.Int
piece_of (kind.Word word.Void) = piece.Void
piece_of (kind.Word word.Return) = piece.Return
piece_of (kind.Name name) = named name
piece_of (kind.Number value type.Int) = number value
piece_of (kind.Sign s) = sign s
piece_of _ = piece.Other

-- ---- places

abbrev pub one_more : Bool → ℕ → Option Place
one_more last count = if nat_lt count most_constants then Some (place.Behind last (count + 1)) else None

abbrev pub next : Place → Piece → Option Place
next place.Type piece.Int = Some place.Main
next place.Main piece.Main = Some place.OpenParen
next place.OpenParen piece.OpenParen = Some place.Void
next place.Void piece.Void = Some place.CloseParen
next place.CloseParen piece.CloseParen = Some place.OpenBrace
next place.OpenBrace piece.OpenBrace = Some place.Statement
next place.Statement piece.Putchar = Some place.OpenPrint
next place.Statement piece.Return = Some (place.First true)
next place.OpenPrint piece.OpenParen = Some (place.First false)
next (place.First last) (piece.Constant c) = Some (place.Behind last 1)
next (place.Another last count) (piece.Constant c) = one_more last count
next (place.Behind last count) piece.Plus = Some (place.Another last count)
next (place.Behind false count) piece.CloseParen = Some place.EndPrint
next (place.Behind true count) piece.Semi = Some place.CloseBrace
next place.EndPrint piece.Semi = Some place.Statement
next place.CloseBrace piece.CloseBrace = Some place.End
next _ _ = None

-- the instructions that a piece gives
abbrev pub written : Place → Piece → List Instr
written (place.First last) (piece.Constant c) = instr.Set 2 (pos c) ∷ []
written (place.Another last count) (piece.Constant c) = addend_code c
written (place.Behind false count) piece.CloseParen = instr.PutChar 3 2 ∷ []
written (place.Behind true count) piece.Semi = instr.Return 2 ∷ []
written _ _ = []

-- ---- readings

-- what comes next, and the code so far
pub record Reading : Type 0 where
  pub place : Place
  pub code : List Instr

abbrev pub begun : Reading
begun = record { place = place.Type; code = [] }

abbrev pub ended : List Instr → Option Reading
ended code = Some (record { place = place.End; code = code })

abbrev pub went_on : Option Place → List Instr → Option Reading
went_on None code = None
went_on (Some place) code = Some (record { place = place; code = code })

abbrev pub read_on : Reading → Piece → Option Reading
read_on r p = went_on (next r.place p) (r.code ++ written r.place p)

-- one token
abbrev pub read : Option Reading → TokenKind → Option Reading
read None kind = None
read (Some r) kind = read_on r (piece_of kind)

abbrev pub read_all : List TokenKind → Option Reading
read_all kinds = fold read (Some begun) kinds
