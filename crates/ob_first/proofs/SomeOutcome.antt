-- Each text that a source can have comes to an outcome.
use Rattle.std.proofs.Common.{ℕ, ◌⊎◌, inl, inr, List}
use Rattle.std.specs.Prelude.{Ok, Err}
use Rattle.ob_tree.specs.Programs.{ProgramTree}
use Rattle.ob_tree.specs.declared.faults.SourceFault.{SourceFault}
use Rattle.ob_tree.specs.declared.faults.SourceFault.TheVariants.{Lex, Syntax, Typing, Statics, Code, NoMemory}
use Rattle.ob_sources.specs.Reading.{IsRead}
use Rattle.ob_sources.specs.Stages.{Outcome as Read}
use Rattle.ob_sources.proofs.Faults.{never}
use Rattle.ob_first.specs.FirstForm.{FirstForm, HasFirstForm}
use Rattle.ob_first.specs.Sources.{ComesTo, IsFaultOf, IsTextOf, Outcome}
use Rattle.ob_first.proofs.FirstImages.{form_or_none}

faulty : (text : List ℕ) (f : SourceFault) → IsRead text (Err f) → IsFaultOf text f
faulty text (Lex k l c) h = h
faulty text (Syntax k l c) h = h
faulty text (Typing k l c) h = never text (Typing k l c) (λ i. i) (λ ts i. i) h
faulty text Statics h = never text Statics (λ i. i) (λ ts i. i) h
faulty text Code h = never text Code (λ i. i) (λ ts i. i) h
faulty text NoMemory h = never text NoMemory (λ i. i) (λ ts i. i) h

pub some_outcome : (text : List ℕ) → ((read : Read ProgramTree) × IsRead text read) → (outcome : Outcome) × ComesTo text outcome
some_outcome text some = by some.0 some.1
  where
    of_program : (p : ProgramTree) → IsTextOf text p → ((f : FirstForm) × HasFirstForm p f) ⊎ ((f : FirstForm) → ¬ HasFirstForm p f) → (outcome : Outcome) × ComesTo text outcome
    of_program p h (inl form) = (Outcome.First form.0, record { program = p; is_text = h; has_form = form.1 })
    of_program p h (inr none) = (Outcome.Later, record { program = p; is_text = h; no_form = none })

    by : (read : Read ProgramTree) → IsRead text read → (outcome : Outcome) × ComesTo text outcome
    by (Ok p) h = of_program p h (form_or_none p)
    by (Err f) h = (Outcome.Faulty f, faulty text f h)
