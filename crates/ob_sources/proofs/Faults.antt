-- A fault of a text, by the stage that finds it.
use Rattle.std.proofs.Common.{◌≡◌, ℕ, List, refl, sym, subst, take}
use Rattle.std.specs.Prelude.{Err}
use Rattle.ob_tree.specs.declared.tokens.Token.{Token}
use Rattle.ob_tree.specs.declared.faults.LexKind.{LexKind}
use Rattle.ob_tree.specs.declared.faults.SyntaxKind.{SyntaxKind}
use Rattle.ob_tree.specs.Programs.{ProgramTree}
use Rattle.ob_tree.specs.declared.faults.SourceFault.{SourceFault}
use Rattle.ob_tree.specs.declared.faults.SourceFault.TheVariants as source
use Rattle.ob_lexer.specs.Texts.{Spells, StopsAt}
use Rattle.ob_parser.specs.Answer.{IsAnswer}
use Rattle.ob_sources.specs.declared.position.Position.{Position}
use Rattle.ob_sources.specs.Positions.{position_at, position_behind}
use Rattle.ob_sources.specs.Reading.{IsLexed, IsParsed, IsRead, fault_answer}
use Rattle.ob_sources.specs.Stages.{Outcome, passes, stops}

pub lexed_fault : (text : List ℕ) (kind : LexKind) (at : ℕ) (position : Position) → StopsAt text kind at → position ≡ position_behind (take at text) → IsRead text (Err (source.Lex kind position.line position.column))
lexed_fault text kind at position s is = stops (source.Lex kind position.line position.column) (record { at = at; stops = s; position_is = is }) refl

pub parsed_fault : (text : List ℕ) (tokens : List Token) (kind : SyntaxKind) (at : ℕ) (position : Position) → Spells tokens text → IsAnswer tokens (fault_answer kind at) → position ≡ position_at text tokens at →
    IsRead text (Err (source.Syntax kind position.line position.column))
parsed_fault text tokens kind at position s answered is = passes tokens s (record { at = at; answered = answered; position_is = is })

same_fault : (f g : SourceFault) → ◌≡◌ {A = Outcome ProgramTree} (Err f) (Err g) → f ≡ g
same_fault f g e = cc

-- a fault that neither stage finds is none of a text
pub never : (text : List ℕ) (f : SourceFault) → (IsLexed text (Err f) → ⊥) → ((ts : List Token) → IsParsed text ts (Err f) → ⊥) → IsRead text (Err f) → ⊥
never text f lexed parsed (passes ts s h) = parsed ts h
never text f lexed parsed (stops g h is) = lexed (subst (λ (e : SourceFault). IsLexed text (Err e)) (sym (same_fault f g is)) h)
