-- A text comes to at most one outcome.
use Rattle.std.proofs.Common.{◌≡◌, ℕ, List, refl, ap, subst}
use Rattle.std.specs.Prelude.{Ok, Err}
use Rattle.ob_tree.specs.Programs.{ProgramTree}
use Rattle.ob_tree.specs.declared.faults.SourceFault.{SourceFault}
use Rattle.ob_tree.specs.declared.faults.SourceFault.TheVariants.{Lex, Syntax, Typing, Statics, Code, NoMemory}
use Rattle.ob_sources.specs.Reading.{IsRead}
use Rattle.ob_sources.specs.Stages.{Outcome as Read}
use Rattle.ob_first.specs.FirstForm.{FirstForm, HasFirstForm}
use Rattle.ob_first.specs.Sources.{ComesTo, IsFaultOf, IsOfForm, IsOfNoForm, IsTextOf, Outcome}
use Rattle.ob_first.proofs.OneForm.{one_form}

-- a text is one program at most, or has one first fault, and never both
abbrev pub OneProgram : Type 0
OneProgram = (text : List ℕ) (a b : Read ProgramTree) → IsRead text a → IsRead text b → a ≡ b

ok_same : (p q : ProgramTree) → ◌≡◌ {A = Read ProgramTree} (Ok p) (Ok q) → p ≡ q
ok_same p q e = cc

err_same : (f g : SourceFault) → ◌≡◌ {A = Read ProgramTree} (Err f) (Err g) → f ≡ g
err_same f g e = cc

ok_no_err : (p : ProgramTree) (f : SourceFault) → ◌≡◌ {A = Read ProgramTree} (Ok p) (Err f) → ⊥
ok_no_err p f e = cc

-- this is what the stages of sources come to
is_fault : (text : List ℕ) (f : SourceFault) → IsFaultOf text f → IsRead text (Err f)
is_fault text (Lex k l c) h = h
is_fault text (Syntax k l c) h = h
is_fault text (Typing k l c) h = absurd h
is_fault text Statics h = absurd h
is_fault text Code h = absurd h
is_fault text NoMemory h = absurd h

module _ (one : OneProgram) where
  one_program : (text : List ℕ) (p q : ProgramTree) → IsTextOf text p → IsTextOf text q → p ≡ q
  one_program text p q h i = ok_same p q (one text (Ok p) (Ok q) h i)

  same_form : (text : List ℕ) (f g : FirstForm) → IsOfForm text f → IsOfForm text g → f ≡ g
  same_form text f g h i =
      one_form i.program f g (subst (λ p. HasFirstForm p f) (one_program text h.program i.program h.is_text i.is_text) h.has_form) i.has_form

  form_or_none : (text : List ℕ) (f : FirstForm) → IsOfForm text f → IsOfNoForm text → ⊥
  form_or_none text f h i =
      i.no_form f (subst (λ p. HasFirstForm p f) (one_program text h.program i.program h.is_text i.is_text) h.has_form)

  same_fault : (text : List ℕ) (r s : SourceFault) → IsFaultOf text r → IsFaultOf text s → r ≡ s
  same_fault text r s h i = err_same r s (one text (Err r) (Err s) (is_fault text r h) (is_fault text s i))

  -- a text with a fault is that of no program
  no_text : (text : List ℕ) (r : SourceFault) (p : ProgramTree) → IsFaultOf text r → IsTextOf text p → ⊥
  no_text text r p h i = ok_no_err p r (one text (Ok p) (Err r) i (is_fault text r h))

  pub one_outcome : (text : List ℕ) (a b : Outcome) → ComesTo text a → ComesTo text b → a ≡ b
  one_outcome text (Outcome.Faulty r) (Outcome.Faulty s) h i = ap Outcome.Faulty (same_fault text r s h i)
  one_outcome text (Outcome.Faulty r) Outcome.Later h i = absurd (no_text text r i.program h i.is_text)
  one_outcome text (Outcome.Faulty r) (Outcome.First g) h i = absurd (no_text text r i.program h i.is_text)
  one_outcome text Outcome.Later (Outcome.Faulty s) h i = absurd (no_text text s h.program i h.is_text)
  one_outcome text Outcome.Later Outcome.Later h i = refl
  one_outcome text Outcome.Later (Outcome.First g) h i = absurd (form_or_none text g i h)
  one_outcome text (Outcome.First f) (Outcome.Faulty s) h i = absurd (no_text text s h.program i h.is_text)
  one_outcome text (Outcome.First f) Outcome.Later h i = absurd (form_or_none text f h i)
  one_outcome text (Outcome.First f) (Outcome.First g) h i = ap Outcome.First (same_form text f g h i)
