-- A fault of a stage is that of all stages, if none stands before it.
use Rattle.std.proofs.Common.{◌≡◌, ℕ, ◌≤◌, List, length, refl, sym, ap, subst, ◌∙◌}
use Rattle.std.specs.Prelude.{Result, Ok, Err, MatchResult}
use Rattle.ob_tree.specs.Programs.{ProgramTree}
use Rattle.ob_tree.specs.declared.tokens.Token.{Token}
use Rattle.ob_tree.specs.declared.faults.SourceFault.{SourceFault}
use Rattle.ob_tree.specs.declared.faults.SourceFault.TheVariants.{Lex, Syntax, Typing, Statics, Code, NoMemory}
use Rattle.ob_typed.specs.declared.program.Typed.{Typed}
use Rattle.ob_typed.specs.ProgramView.{typed_program}
use Rattle.ob_typed.specs.TypedTree.{TypedProgram}
use Rattle.ob_sources.specs.Reading.{IsLexed, IsParsed, IsRead}
use Rattle.ob_sources.specs.Stages.{MayStop, Outcome, Then, passes, stops}
use Rattle.ob_prelude.specs.Completion.{complete}
use Rattle.ob_compile.specs.Accepted.{ComesTo, IsChecked, IsLimited, IsTyped, most_source_bytes}

same_fault : {A : Type 0} (f g : SourceFault) → ◌≡◌ {A = Outcome A} (Err f) (Err g) → f ≡ g
same_fault f g e = cc

-- ---- want of memory aside, a fault that may come is one of a wider relation

pub widened : {A B : Type 0} (comes : Outcome A → Type 0) (wider : Outcome B → Type 0) → ((f : SourceFault) → comes (Err f) → wider (Err f)) → (f : SourceFault) → MayStop comes f → MayStop wider f
widened comes wider widen (Lex k l c) h = widen (Lex k l c) h
widened comes wider widen (Syntax k l c) h = widen (Syntax k l c) h
widened comes wider widen (Typing k l c) h = widen (Typing k l c) h
widened comes wider widen Statics h = widen Statics h
widened comes wider widen Code h = widen Code h
widened comes wider widen NoMemory h = h

-- what a call answers, where its trees are read as plain data
abbrev pub Answers : (Outcome TypedProgram → Type 0) → Result Typed SourceFault → Type 0
Answers comes r = MatchResult r (λ t. comes (Ok (typed_program t))) (MayStop comes)

pub widened_answer : (comes wider : Outcome TypedProgram → Type 0) → ((o : Outcome TypedProgram) → comes o → wider o) → (r : Result Typed SourceFault) → Answers comes r → Answers wider r
widened_answer comes wider widen (Ok t) h = widen (Ok (typed_program t)) h
widened_answer comes wider widen (Err f) h = widened comes wider (λ g. widen (Err g)) f h

-- ---- which stages find a fault

-- one that is found while the source is read
pub read_fault : (text : List ℕ) (f : SourceFault) → IsRead text (Err f) → IsTyped text (Err f)
read_fault text f (passes ts s h) = passes ts s (stops f h refl)
read_fault text f (stops g h is) = stops g h (ap Err (same_fault f g is))

-- what is found in the types of a source that is a program
checked : (text : List ℕ) (ts : List Token) (p : ProgramTree) → IsLexed text (Ok ts) → IsParsed text ts (Ok p) → (o : Outcome TypedProgram) → IsChecked text ts (complete p) o → IsTyped text o
checked text ts p lexed parsed o h = passes ts lexed (passes p parsed h)

pub checked_answer : (text : List ℕ) (ts us : List Token) (p q : ProgramTree) (r : Result Typed SourceFault) → us ≡ ts → q ≡ complete p → IsLexed text (Ok ts) → IsParsed text ts (Ok p) → Answers (IsChecked text us q) r → Answers (IsTyped text) r
checked_answer text ts us p q r tokens whole lexed parsed h =
    let of_tokens : Answers (IsChecked text ts q) r = subst (λ (vs : List Token). Answers (IsChecked text vs q) r) tokens h in
    let of_whole : Answers (IsChecked text ts (complete p)) r = subst (λ (w : ProgramTree). Answers (IsChecked text ts w) r) whole of_tokens in
    widened_answer (IsChecked text ts (complete p)) (IsTyped text) (checked text ts p lexed parsed) r of_whole

-- one that is found before the limits are looked at
pub typed_fault : (text : List ℕ) → length text ≤ most_source_bytes → (f : SourceFault) → IsTyped text (Err f) → ComesTo text (Err f)
typed_fault text short f h = record { short = short; stages = stops f h refl }

-- what is found by the limits
limited : (text : List ℕ) → length text ≤ most_source_bytes → (t : TypedProgram) → IsTyped text (Ok t) → (o : Outcome TypedProgram) → IsLimited t o → ComesTo text o
limited text short t typed o h = record { short = short; stages = passes t typed h }

pub limited_answer : (text : List ℕ) → length text ≤ most_source_bytes → (t : TypedProgram) → IsTyped text (Ok t) → (r : Result Typed SourceFault) → Answers (IsLimited t) r → Answers (ComesTo text) r
limited_answer text short t typed = widened_answer (IsLimited t) (ComesTo text) (limited text short t typed)
