-- Places in a text, as they are counted while it is read.
use Rattle.std.specs.Prelude.{ℕ, ◌+◌, ◌==◌, List, [], ◌∷◌, length, count_by, true, ◌&&◌, Option, Some, None, if◌then◌else◌}
use Rattle.std.specs.List.{list_all}
use Rattle.ob_tree.specs.Bytes.{is_blank}
use Rattle.ob_tree.specs.Spaces.{last_line}
use Rattle.ob_tree.specs.declared.tokens.Token.{Token}
use Rattle.ob_tree.specs.declared.tokens.TokenKind.{TokenKind}
use Rattle.ob_tree.specs.declared.faults.LexFault.{LexFault}
use Rattle.ob_tree.specs.declared.faults.LexFault.TheVariants as fault
use Rattle.ob_lexer.specs.Texts.{fault_of}
use Rattle.ob_lexer.specs.declared.cursor.Cursor.{Cursor}
use Rattle.ob_lexer.specs.declared.taken.Refusal.{Refusal}
use Rattle.ob_lexer.specs.declared.taken.Refusal.TheVariants as refusal

-- the place behind these bytes
unfoldable pub place_of : List ℕ → Cursor
place_of before = record {
  at = length before;
  line = 1 + count_by (λ c. c == 10) before;
  column = 1 + length (last_line before);
  fresh = list_all is_blank (last_line before);
}

-- the place behind one more byte
unfoldable pub advance : Cursor → ℕ → Cursor
advance place c =
    if c == 10 then record { at = place.at + 1; line = place.line + 1; column = 1; fresh = true }
    else record { at = place.at + 1; line = place.line; column = place.column + 1; fresh = place.fresh && is_blank c }

-- the place behind more bytes
abbrev pub moved : Cursor → List ℕ → Cursor
moved place [] = place
moved place (c ∷ cs) = moved (advance place c) cs

-- the token that stands from a place up to `past`, if any
abbrev pub tokens_at : Cursor → (past : ℕ) → Option TokenKind → List Token
tokens_at place past None = []
tokens_at place past (Some token) =
    record { kind = token; span = record { start = place.at; end = past; line = place.line; column = place.column } } ∷ []

-- a refusal as a fault at a place
abbrev pub fault_at : Refusal → ℕ → LexFault
fault_at (refusal.Fault kind) at = fault_of kind at
fault_at refusal.NoMemory at = fault.NoMemory
