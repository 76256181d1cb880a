-- The line and the column of a place in a text, both counted from 1. A line ends with a line feed, and a column counts bytes.
use Rattle.std.specs.Prelude.{ℕ, List, [], Option, Some, None, slice_get}
use Rattle.ob_tree.specs.declared.tokens.Span.{Span}
use Rattle.ob_tree.specs.declared.tokens.Token.{Token}
use Rattle.ob_lexer.specs.Texts.{span_of}
use Rattle.ob_sources.specs.declared.position.Position.{Position}

-- where a span begins
abbrev pub begin_of : Span → Position
begin_of span = record { line = span.line; column = span.column }

-- the place behind these bytes
abbrev pub position_behind : List ℕ → Position
position_behind before = begin_of (span_of before [])

-- the place of a token of the text; where there is none, the place behind the text
abbrev pub position_of : List ℕ → Option Token → Position
position_of text (Some token) = begin_of token.span
position_of text None = position_behind text

-- the place of the token of a number, counted from 0; behind the text where there is none of this number
abbrev pub position_at : (text : List ℕ) → List Token → (number : ℕ) → Position
position_at text tokens number = position_of text (slice_get tokens number)
