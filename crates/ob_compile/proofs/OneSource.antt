-- A source comes to one outcome at most.
use Rattle.std.proofs.Common.{◌≡◌, ℕ, ◌<◌, ◌≤◌, List, refl, sym, ap, subst, ◌∙◌, arith}
use Rattle.std.specs.Prelude.{Result, Ok, Err}
use Rattle.ob_tree.specs.Programs.{ProgramTree}
use Rattle.ob_tree.specs.declared.tokens.Token.{Token}
use Rattle.ob_tree.specs.declared.faults.TypeKind.{TypeKind}
use Rattle.ob_tree.specs.declared.faults.SourceFault.{SourceFault}
use Rattle.ob_tree.specs.declared.faults.SourceFault.TheVariants.{Lex, Syntax, Typing, Statics, Code, NoMemory}
use Rattle.ob_typed.specs.Faults.{Answer, Fault}
use Rattle.ob_typed.specs.TypedTree.{TypedProgram}
use Rattle.ob_sources.specs.Reading.{IsLexed, IsParsed}
use Rattle.ob_sources.specs.Stages.{Outcome, Then, passes, stops}
use Rattle.ob_sources.proofs.OneProgram.{one_lexed, one_parsed}
use Rattle.ob_sources.proofs.Stages.{OneOutcome, one_then}
use Rattle.ob_prelude.specs.Completion.{complete}
use Rattle.ob_compile.specs.Accepted.{ComesTo, HasTypeFault, IsChecked, IsLimited, IsTyped, type_fault_at}

same_tree : (t u : TypedProgram) → ◌≡◌ {A = Answer TypedProgram} (Ok t) (Ok u) → t ≡ u
same_tree t u e = cc

same_rule : (f g : Fault) → ◌≡◌ {A = Answer TypedProgram} (Err f) (Err g) → f ≡ g
same_rule f g e = cc

tree_or_fault : (t : TypedProgram) (f : Fault) → ◌≡◌ {A = Answer TypedProgram} (Ok t) (Err f) → ⊥
tree_or_fault t f e = cc

one_checked : (text : List ℕ) (ts : List Token) (p : ProgramTree) → OneOutcome (IsChecked text ts p)
one_checked text ts p (Ok t) (Ok u) h i = ap Ok (same_tree t u (sym h ∙ i))
one_checked text ts p (Ok t) (Err g) h i = absurd (tree_or_fault t (record { kind = i.kind; place = i.at }) (sym h ∙ i.first))
one_checked text ts p (Err f) (Ok u) h i = absurd (tree_or_fault u (record { kind = h.kind; place = h.at }) (sym i ∙ h.first))
one_checked text ts p (Err f) (Err g) h i =
    let same : ◌≡◌ {A = Fault} (record { kind = h.kind; place = h.at }) (record { kind = i.kind; place = i.at }) = same_rule (record { kind = h.kind; place = h.at }) (record { kind = i.kind; place = i.at }) (sym h.first ∙ i.first) in
    ap Err (h.fault_is ∙ ap (λ (r : Fault). type_fault_at text ts r.kind r.place) same ∙ sym i.fault_is)

one_limited : (t : TypedProgram) → OneOutcome (IsLimited t)
one_limited t (Ok u) (Ok v) h i = ap Ok (h.0 ∙ sym i.0)
one_limited t (Ok u) (Err Statics) h i = absurd (let few = h.1.statics in omega (arith, few, i))
one_limited t (Ok u) (Err Code) h i = absurd (let few = h.1.code in omega (arith, few, i.1))
one_limited t (Err Statics) (Ok v) h i = absurd (let few = i.1.statics in omega (arith, few, h))
one_limited t (Err Statics) (Err Statics) h i = refl
one_limited t (Err Statics) (Err Code) h i = absurd (omega (arith, h, i.0))
one_limited t (Err Code) (Ok v) h i = absurd (let few = i.1.code in omega (arith, few, h.1))
one_limited t (Err Code) (Err Statics) h i = absurd (omega (arith, i, h.0))
one_limited t (Err Code) (Err Code) h i = refl
one_limited t o (Err (Lex k l c)) h i = absurd i
one_limited t o (Err (Syntax k l c)) h i = absurd i
one_limited t o (Err (Typing k l c)) h i = absurd i
one_limited t o (Err NoMemory) h i = absurd i
one_limited t (Err (Lex k l c)) o h i = absurd h
one_limited t (Err (Syntax k l c)) o h i = absurd h
one_limited t (Err (Typing k l c)) o h i = absurd h
one_limited t (Err NoMemory) o h i = absurd h

pub one_typed : (text : List ℕ) → OneOutcome (IsTyped text)
one_typed text =
    one_then (IsLexed text) (λ ts. Then (IsParsed text ts) (λ p. IsChecked text ts (complete p))) (one_lexed text)
    (λ ts. one_then (IsParsed text ts) (λ p. IsChecked text ts (complete p)) (one_parsed text ts) (λ p. one_checked text ts (complete p)))

pub one_outcome : (text : List ℕ) → OneOutcome (ComesTo text)
one_outcome text a b h i = one_then (IsTyped text) IsLimited (one_typed text) one_limited a b h.stages i.stages

-- ---- faults that don't come

same_source_fault : {A : Type 0} (f g : SourceFault) → ◌≡◌ {A = Outcome A} (Err f) (Err g) → f ≡ g
same_source_fault f g e = cc

module _ {A B : Type 0} (first : Outcome A → Type 0) (second : A → Outcome B → Type 0) (f : SourceFault) where
  never_then : (first (Err f) → ⊥) → ((x : A) → second x (Err f) → ⊥) → Then first second (Err f) → ⊥
  never_then one other (passes x h s) = other x s
  never_then one other (stops g h is) = one (subst (λ (e : SourceFault). first (Err e)) (sym (same_source_fault f g is)) h)

abbrev pub IsOfTypes : SourceFault → Type 0
IsOfTypes (Typing k l c) = Unit {0}
IsOfTypes _ = ⊥

no_other : (text : List ℕ) (ts : List Token) (p : ProgramTree) (f : SourceFault) → (IsOfTypes f → ⊥) → HasTypeFault text ts p f → ⊥
no_other text ts p f other h = other (subst IsOfTypes (sym h.fault_is) tt)

pub never_typed : (text : List ℕ) (f : SourceFault) → (IsLexed text (Err f) → ⊥) → ((ts : List Token) → IsParsed text ts (Err f) → ⊥) → (IsOfTypes f → ⊥) → IsTyped text (Err f) → ⊥
never_typed text f lexed parsed other =
    never_then (IsLexed text) (λ ts. Then (IsParsed text ts) (λ p. IsChecked text ts (complete p))) f lexed
    (λ ts. never_then (IsParsed text ts) (λ p. IsChecked text ts (complete p)) f (parsed ts) (λ p. no_other text ts (complete p) f other))

pub no_statics : (text : List ℕ) → IsTyped text (Err Statics) → ⊥
no_statics text = never_typed text Statics (λ h. h) (λ ts h. h) (λ h. h)

pub no_code : (text : List ℕ) → IsTyped text (Err Code) → ⊥
no_code text = never_typed text Code (λ h. h) (λ ts h. h) (λ h. h)

pub no_memory : (text : List ℕ) → ComesTo text (Err NoMemory) → ⊥
no_memory text h = never_then (IsTyped text) IsLimited NoMemory (never_typed text NoMemory (λ i. i) (λ ts i. i) (λ i. i)) (λ t i. i) h.stages

-- an accepted source is typed so
pub accepted_typed : (text : List ℕ) (t : TypedProgram) → ComesTo text (Ok t) → IsTyped text (Ok t)
accepted_typed text t h = by h.stages
  where
    no_fault : (f : SourceFault) → ◌≡◌ {A = Outcome TypedProgram} (Ok t) (Err f) → ⊥
    no_fault f e = cc

    by : Then (IsTyped text) IsLimited (Ok t) → IsTyped text (Ok t)
    by (passes u typed limited) = subst (λ (v : TypedProgram). IsTyped text (Ok v)) (sym limited.0) typed
    by (stops f i is) = absurd (no_fault f is)
