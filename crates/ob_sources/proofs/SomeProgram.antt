-- Each text that a source can have comes to an outcome.
use Rattle.std.proofs.Common.{ℕ, ◌^◌, ◌≤◌, ◌⊎◌, inl, inr, List, length, take, refl}
use Rattle.std.specs.Prelude.{Ok, Err}
use Rattle.ob_tree.specs.declared.tokens.Token.{Token}
use Rattle.ob_tree.specs.declared.faults.LexKind.{LexKind}
use Rattle.ob_tree.specs.declared.faults.SyntaxKind.TheVariants as syntax
use Rattle.ob_tree.specs.declared.faults.SourceFault.TheVariants.{Lex, Syntax}
use Rattle.ob_lexer.specs.Texts.{Spells, StopsAt}
use Rattle.ob_lexer.proofs.SomeReading.{some-reading}
use Rattle.ob_lexer.proofs.SourceTokens.{spells-of-source}
use Rattle.ob_parser.specs.Answer.{Answer, IsAnswer}
use Rattle.ob_parser.proofs.OneAnswer.{some-answer}
use Rattle.ob_sources.specs.declared.position.Position.{Position}
use Rattle.ob_sources.specs.Positions.{position_at, position_behind}
use Rattle.ob_sources.specs.Reading.{IsLexed, IsParsed, IsRead}
use Rattle.ob_sources.proofs.Stages.{SomeOutcome, some_then}

pub some_lexed : (text : List ℕ) → SomeOutcome (IsLexed text)
some_lexed text = by (some-reading text)
  where
    by : ((ts : List Token) × Spells ts text) ⊎ ((kind : LexKind) × (at : ℕ) × StopsAt text kind at) → SomeOutcome (IsLexed text)
    by (inl s) = (Ok s.0, s.1)
    by (inr s) = let x : Position = position_behind (take s.1 text) in (Err (Lex s.0 x.line x.column), record { at = s.1; stops = s.2; position_is = refl })

pub some_parsed : (text : List ℕ) → length text ≤ 2 ^ 20 → (ts : List Token) → Spells ts text → SomeOutcome (IsParsed text ts)
some_parsed text short ts s = let answer = some-answer ts (spells-of-source text ts short s) in by answer.0 answer.1
  where
    by : (a : Answer) → IsAnswer ts a → SomeOutcome (IsParsed text ts)
    by (Answer.Parsed p) h = (Ok p, h)
    by (Answer.NoTree i) h =
        let x : Position = position_at text ts i in
        (Err (Syntax syntax.NoTree x.line x.column), record { at = i; answered = h; position_is = refl })
    by (Answer.TooDeep i) h =
        let x : Position = position_at text ts i in
        (Err (Syntax syntax.TooDeep x.line x.column), record { at = i; answered = h; position_is = refl })

pub some_program : (text : List ℕ) → length text ≤ 2 ^ 20 → SomeOutcome (IsRead text)
some_program text short = some_then (IsLexed text) (IsParsed text) (some_lexed text) (some_parsed text short)
