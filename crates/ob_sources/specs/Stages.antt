-- A source goes through stages, one after another. Each makes something of what the stage before it made, or finds the fault of
-- the source, behind which no stage is asked.
use Rattle.std.specs.Prelude.{◌≡◌, Result, Ok, Err}
use Rattle.ob_tree.specs.declared.faults.SourceFault.{SourceFault}
use Rattle.ob_tree.specs.declared.faults.SourceFault.TheVariants as source

-- what a stage makes, or the source's fault
abbrev pub Outcome : Type 0 → Type 0
Outcome A = Result A SourceFault

-- what two stages come to, one after another
pub data Then {A B : Type 0} (first : Outcome A → Type 0) (second : A → Outcome B → Type 0) (outcome : Outcome B) : Type 0 where
  passes : (made : A) (is_made : first (Ok made)) (follows : second made outcome) → Then first second outcome
  stops : (fault : SourceFault) (is_fault : first (Err fault)) (is : outcome ≡ Err fault) → Then first second outcome

-- the fault is what the stages come to; or there was too little memory, which says nothing of the source
abbrev pub MayStop : {A : Type 0} → (Outcome A → Type 0) → SourceFault → Type 0
MayStop comes (source.Lex kind line column) = comes (Err (source.Lex kind line column))
MayStop comes (source.Syntax kind line column) = comes (Err (source.Syntax kind line column))
MayStop comes (source.Typing kind line column) = comes (Err (source.Typing kind line column))
MayStop comes source.Statics = comes (Err source.Statics)
MayStop comes source.Code = comes (Err source.Code)
MayStop comes source.NoMemory = Unit {0}
