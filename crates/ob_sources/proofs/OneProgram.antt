-- A text comes to one outcome at most.
use Rattle.std.proofs.Common.{◌≡◌, ℕ, List, take, refl, sym, ap, ◌∙◌}
use Rattle.std.specs.Prelude.{Ok, Err}
use Rattle.ob_tree.specs.Programs.{ProgramTree}
use Rattle.ob_tree.specs.declared.tokens.Token.{Token}
use Rattle.ob_tree.specs.declared.faults.LexKind.{LexKind}
use Rattle.ob_tree.specs.declared.faults.SyntaxKind.{SyntaxKind}
use Rattle.ob_tree.specs.declared.faults.SyntaxKind.TheVariants as syntax
use Rattle.ob_tree.specs.declared.faults.SourceFault.TheVariants.{Lex, Syntax, Typing, Statics, Code, NoMemory}
use Rattle.ob_lexer.proofs.Scanning.{spells-same, spells-no-fault, stops-same}
use Rattle.ob_parser.specs.Answer.{Answer}
use Rattle.ob_parser.proofs.OneAnswer.{one-answer}
use Rattle.ob_sources.specs.declared.position.Position.{Position}
use Rattle.ob_sources.specs.Positions.{position_at, position_behind}
use Rattle.ob_sources.specs.Reading.{HasLexFaultAt, HasSyntaxFaultAt, IsLexed, IsParsed, IsRead, fault_answer}
use Rattle.ob_sources.proofs.Stages.{OneOutcome, one_then}

same_lex : (text : List ℕ) (k l : LexKind) (x y : Position) → HasLexFaultAt text k x → HasLexFaultAt text l y → Lex k x.line x.column ≡ Lex l y.line y.column
same_lex text k l x y h i =
    let same = stops-same text k l h.at i.at h.stops i.stops in
    let kinds : k ≡ l = same.0 in
    let places : x ≡ y = h.position_is ∙ ap (λ n. position_behind (take n text)) same.1 ∙ sym i.position_is in
    ap (λ kind. Lex kind x.line x.column) kinds ∙ ap (λ (p : Position). Lex l p.line p.column) places

no_fault : (text : List ℕ) (ts : List Token) (k : LexKind) (x : Position) → IsLexed text (Ok ts) → HasLexFaultAt text k x → ⊥
no_fault text ts k x s h = spells-no-fault text ts k h.at s h.stops

pub one_lexed : (text : List ℕ) → OneOutcome (IsLexed text)
one_lexed text (Ok ts) (Ok us) h i = ap Ok (spells-same text ts us h i)
one_lexed text (Ok ts) (Err (Lex k a b)) h i = absurd (no_fault text ts k (record { line = a; column = b }) h i)
one_lexed text (Err (Lex k a b)) (Ok us) h i = absurd (no_fault text us k (record { line = a; column = b }) i h)
one_lexed text (Err (Lex k a b)) (Err (Lex l c d)) h i = ap Err (same_lex text k l (record { line = a; column = b }) (record { line = c; column = d }) h i)
one_lexed text o (Err (Syntax l c d)) h i = absurd i
one_lexed text o (Err (Typing l c d)) h i = absurd i
one_lexed text o (Err Statics) h i = absurd i
one_lexed text o (Err Code) h i = absurd i
one_lexed text o (Err NoMemory) h i = absurd i
one_lexed text (Err (Syntax l c d)) o h i = absurd h
one_lexed text (Err (Typing l c d)) o h i = absurd h
one_lexed text (Err Statics) o h i = absurd h
one_lexed text (Err Code) o h i = absurd h
one_lexed text (Err NoMemory) o h i = absurd h

same_answer : (k l : SyntaxKind) (i j : ℕ) → fault_answer k i ≡ fault_answer l j → (k ≡ l) × (i ≡ j)
same_answer syntax.NoTree syntax.NoTree i j e = (refl, cc)
same_answer syntax.NoTree syntax.TooDeep i j e = absurd (cc)
same_answer syntax.TooDeep syntax.NoTree i j e = absurd (cc)
same_answer syntax.TooDeep syntax.TooDeep i j e = (refl, cc)

no_program : (k : SyntaxKind) (i : ℕ) (p : ProgramTree) → fault_answer k i ≡ Answer.Parsed p → ⊥
no_program syntax.NoTree i p e = cc
no_program syntax.TooDeep i p e = cc

same_program : (ts : List Token) (p q : ProgramTree) → Answer.Parsed p ≡ Answer.Parsed q → p ≡ q
same_program ts p q e = cc

no_tree : (text : List ℕ) (ts : List Token) (p : ProgramTree) (k : SyntaxKind) (x : Position) → IsParsed text ts (Ok p) → HasSyntaxFaultAt text ts k x → ⊥
no_tree text ts p k x h i = no_program k i.at p (one-answer ts (fault_answer k i.at) (Answer.Parsed p) i.answered h)

same_syntax : (text : List ℕ) (ts : List Token) (k l : SyntaxKind) (x y : Position) → HasSyntaxFaultAt text ts k x → HasSyntaxFaultAt text ts l y → Syntax k x.line x.column ≡ Syntax l y.line y.column
same_syntax text ts k l x y h i =
    let same = same_answer k l h.at i.at (one-answer ts (fault_answer k h.at) (fault_answer l i.at) h.answered i.answered) in
    let kinds : k ≡ l = same.0 in
    let places : x ≡ y = h.position_is ∙ ap (λ n. position_at text ts n) same.1 ∙ sym i.position_is in
    ap (λ kind. Syntax kind x.line x.column) kinds ∙ ap (λ (p : Position). Syntax l p.line p.column) places

pub one_parsed : (text : List ℕ) (ts : List Token) → OneOutcome (IsParsed text ts)
one_parsed text ts (Ok p) (Ok q) h i = ap Ok (same_program ts p q (one-answer ts (Answer.Parsed p) (Answer.Parsed q) h i))
one_parsed text ts (Ok p) (Err (Syntax k a b)) h i = absurd (no_tree text ts p k (record { line = a; column = b }) h i)
one_parsed text ts (Err (Syntax k a b)) (Ok q) h i = absurd (no_tree text ts q k (record { line = a; column = b }) i h)
one_parsed text ts (Err (Syntax k a b)) (Err (Syntax l c d)) h i = ap Err (same_syntax text ts k l (record { line = a; column = b }) (record { line = c; column = d }) h i)
one_parsed text ts o (Err (Lex l c d)) h i = absurd i
one_parsed text ts o (Err (Typing l c d)) h i = absurd i
one_parsed text ts o (Err Statics) h i = absurd i
one_parsed text ts o (Err Code) h i = absurd i
one_parsed text ts o (Err NoMemory) h i = absurd i
one_parsed text ts (Err (Lex l c d)) o h i = absurd h
one_parsed text ts (Err (Typing l c d)) o h i = absurd h
one_parsed text ts (Err Statics) o h i = absurd h
one_parsed text ts (Err Code) o h i = absurd h
one_parsed text ts (Err NoMemory) o h i = absurd h

pub one_program : (text : List ℕ) → OneOutcome (IsRead text)
one_program text = one_then (IsLexed text) (IsParsed text) (one_lexed text) (one_parsed text)
