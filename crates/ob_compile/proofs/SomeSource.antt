-- Each text that a source can have comes to an outcome.
use Rattle.std.proofs.Common.{◌≡◌, ℕ, ◌<◌, ◌≤◌, ◌⊎◌, inl, inr, List, length, refl, arith}
use Rattle.std.specs.Prelude.{Result, Ok, Err}
use Rattle.std.proofs.lemmas.Bool.{cases_lt}
use Rattle.ob_tree.specs.Programs.{ProgramTree}
use Rattle.ob_tree.specs.declared.tokens.Token.{Token}
use Rattle.ob_tree.specs.declared.faults.SourceFault.TheVariants.{Statics, Code}
use Rattle.ob_typed.specs.Faults.{Answer, Fault}
use Rattle.ob_typed.specs.TypedTree.{TypedProgram}
use Rattle.ob_typed.specs.Typing.{typing}
use Rattle.ob_sources.specs.Reading.{IsLexed, IsParsed}
use Rattle.ob_sources.specs.Stages.{Then}
use Rattle.ob_sources.proofs.SomeProgram.{some_lexed, some_parsed}
use Rattle.ob_sources.proofs.Stages.{SomeOutcome, some_then}
use Rattle.ob_prelude.specs.Completion.{complete}
use Rattle.ob_limits.specs.Limits.{static_bytes, weight, most_static_bytes, most_weight}
use Rattle.ob_compile.specs.Accepted.{ComesTo, IsChecked, IsLimited, IsTyped, most_source_bytes, type_fault_at}

some_checked : (text : List ℕ) (ts : List Token) (p : ProgramTree) → SomeOutcome (IsChecked text ts p)
some_checked text ts p = by (typing p) refl
  where
    by : (a : Answer TypedProgram) → typing p ≡ a → SomeOutcome (IsChecked text ts p)
    by (Ok t) e = (Ok t, e)
    by (Err f) e = (Err (type_fault_at text ts f.kind f.place), record { kind = f.kind; at = f.place; first = e; fault_is = refl })

some_limited : (t : TypedProgram) → SomeOutcome (IsLimited t)
some_limited t = by (cases_lt most_static_bytes (static_bytes t)) (cases_lt most_weight (weight t))
  where
    by : (most_static_bytes < static_bytes t) ⊎ (static_bytes t ≤ most_static_bytes) → (most_weight < weight t) ⊎ (weight t ≤ most_weight) → SomeOutcome (IsLimited t)
    by (inl great) code = (Err Statics, great)
    by (inr few) (inl heavy) = (Err Code, (few, heavy))
    by (inr few) (inr light) = (Ok t, (refl, record { statics = few; code = light }))

some_typed : (text : List ℕ) → length text ≤ most_source_bytes → SomeOutcome (IsTyped text)
some_typed text short =
    some_then (IsLexed text) (λ ts. Then (IsParsed text ts) (λ p. IsChecked text ts (complete p))) (some_lexed text)
    (λ ts lexed. some_then (IsParsed text ts) (λ p. IsChecked text ts (complete p)) (some_parsed text short ts lexed) (λ p parsed. some_checked text ts (complete p)))

pub some_outcome : (text : List ℕ) → length text ≤ most_source_bytes → SomeOutcome (ComesTo text)
some_outcome text short =
    let some = some_then (IsTyped text) IsLimited (some_typed text short) (λ t typed. some_limited t) in
    (some.0, record { short = short; stages = some.1 })
