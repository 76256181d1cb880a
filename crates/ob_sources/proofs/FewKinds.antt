-- A program has as many kinds as tokens, and a fault of tokens stands in the text.
use Rattle.std.proofs.Common.{◌≡◌, ℕ, ◌^◌, ◌<◌, ◌≤◌, List, ◌∷◌, length, ap, arith, length-append}
use Rattle.ob_tree.specs.declared.tokens.Token.{Token}
use Rattle.ob_tree.specs.declared.faults.LexKind.{LexKind}
use Rattle.ob_tree.specs.Programs.{ProgramTree}
use Rattle.ob_tree.specs.ProgramFronts.{IsTreeOf}
use Rattle.ob_tree.specs.ProgramSpelling.{spell_program}
use Rattle.ob_tree.proofs.RightReadings.{length-kinds}
use Rattle.ob_lexer.specs.Texts.{StopsAt, text_of}
use Rattle.ob_lexer.proofs.SourceTokens.{spells-few}
use Rattle.std.specs.Prelude.{Ok, Err}
use Rattle.ob_tree.specs.declared.faults.SourceFault.{SourceFault}
use Rattle.ob_sources.specs.Reading.{IsRead}
use Rattle.ob_sources.specs.Stages.{Outcome, passes, stops}

pub stops_within : (text : List ℕ) (kind : LexKind) (at : ℕ) → StopsAt text kind at → at < length text
stops_within text kind at s =
    omega (arith, s.at_is, ap length s.text_is, length-append (text_of s.pieces) (s.first ∷ s.rest))

pub few_kinds : (ts : List Token) (p : ProgramTree) → IsTreeOf ts p → length ts ≤ 2 ^ 20 → length (spell_program p) ≤ 2 ^ 20
few_kinds ts p t few = omega (arith, ap length t.spelled, length-kinds ts 0 (length ts) (omega arith) (omega arith))

no_fault : (p : ProgramTree) (f : SourceFault) → ◌≡◌ {A = Outcome ProgramTree} (Ok p) (Err f) → ⊥
no_fault p f e = cc

-- the program of a text has few kinds
pub few_of_text : (text : List ℕ) (p : ProgramTree) → length text ≤ 2 ^ 20 → IsRead text (Ok p) → length (spell_program p) ≤ 2 ^ 20
few_of_text text p short (passes ts s answered) = few_kinds ts p answered.0 (spells-few text ts short s)
few_of_text text p short (stops f h is) = absurd (no_fault p f is)
