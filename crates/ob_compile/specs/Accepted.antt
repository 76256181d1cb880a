-- Which sources are accepted, and the first fault of the others, stage by stage: the tokens of a source (C99 6.4); the program that
-- they are (6.5 to 6.9), with the library functions that it needs; its types (6.5 to 6.9); and the limits of programs. A stage that
-- is put in stands in the chain of `IsTyped` or of `ComesTo`.
use Rattle.std.specs.Prelude.{◌≡◌, ℕ, ◌≤◌, ◌^◌, List, length, Ok, Err}
use Rattle.ob_tree.specs.Programs.{ProgramTree}
use Rattle.ob_tree.specs.declared.tokens.Token.{Token}
use Rattle.ob_tree.specs.declared.faults.SourceFault.{SourceFault}
use Rattle.ob_tree.specs.declared.faults.SourceFault.TheVariants as source
use Rattle.ob_tree.specs.declared.faults.TypeKind.{TypeKind}
use Rattle.ob_typed.specs.TypedTree.{TypedProgram}
use Rattle.ob_typed.specs.Typing.{FirstTypeFault, Types}
use Rattle.ob_sources.specs.Positions.{position_at}
use Rattle.ob_sources.specs.Reading.{IsLexed, IsParsed}
use Rattle.ob_sources.specs.Stages.{Outcome, Then}
use Rattle.ob_prelude.specs.Completion.{complete}
use Rattle.ob_limits.specs.Limits.{IsOver, IsWithinLimits}
use Rattle.ob_limits.specs.declared.limit.Limit.TheVariants as over

-- ---- types

-- The place of a fault of types at a token of the text. Behind the text stands what is broken at no token: in a function of the
-- library, and where no `main` is declared.
abbrev pub type_fault_at : (text : List ℕ) → List Token → TypeKind → (at : ℕ) → SourceFault
type_fault_at text tokens kind at = let x = position_at text tokens at in source.Typing kind x.line x.column

-- the first rule of types that is broken, at its place
pub record HasTypeFault (text : List ℕ) (tokens : List Token) (p : ProgramTree) (fault : SourceFault) : Type 0 where
  pub kind : TypeKind
  pub at : ℕ
  pub first : FirstTypeFault p (record { kind = kind; place = at })
  pub fault_is : fault ≡ type_fault_at text tokens kind at

-- the program has this typed tree, or this first fault of types
abbrev pub IsChecked : (text : List ℕ) → List Token → ProgramTree → Outcome TypedProgram → Type 0
IsChecked text tokens p (Ok t) = Types p t
IsChecked text tokens p (Err fault) = HasTypeFault text tokens p fault

-- ---- limits

-- the program keeps the limits, or this is the first that it is over
abbrev pub IsLimited : TypedProgram → Outcome TypedProgram → Type 0
IsLimited t (Ok u) = (u ≡ t) × IsWithinLimits t
IsLimited t (Err source.Statics) = IsOver t over.Statics
IsLimited t (Err source.Code) = IsOver t over.Code
IsLimited t (Err (source.Lex kind line column)) = ⊥
IsLimited t (Err (source.Syntax kind line column)) = ⊥
IsLimited t (Err (source.Typing kind line column)) = ⊥
IsLimited t (Err source.NoMemory) = ⊥

-- ---- sources

-- the text has this typed tree, with that of the library functions that it needs, or this first fault; the limits aside
abbrev pub IsTyped : (text : List ℕ) → Outcome TypedProgram → Type 0
IsTyped text = Then (IsLexed text) (λ tokens. Then (IsParsed text tokens) (λ p. IsChecked text tokens (complete p)))

-- a source has at most so many bytes
abbrev pub most_source_bytes : ℕ
most_source_bytes = 2 ^ 20

-- what a source comes to in all
pub record ComesTo (text : List ℕ) (outcome : Outcome TypedProgram) : Type 0 where
  pub short : length text ≤ most_source_bytes
  pub stages : Then (IsTyped text) IsLimited outcome

-- the source is accepted, and t is its typed tree
abbrev pub Accepted : (text : List ℕ) → TypedProgram → Type 0
Accepted text t = ComesTo text (Ok t)

-- the source has this first fault
abbrev pub HasSourceFault : (text : List ℕ) → SourceFault → Type 0
HasSourceFault text fault = ComesTo text (Err fault)
