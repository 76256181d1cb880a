-- What the text of a source comes to: a fault of its tokens or of its syntax, at the place where that stands; a program that
-- can't be compiled yet; or a program that is compiled.
use Rattle.std.specs.Prelude.{◌≡◌, ℕ, ◌≤◌, ◌<◌, ◌^◌, List, length, Ok, Err}
use Rattle.ob_code.specs.declared.image.Image.{Image}
use Rattle.ob_tree.specs.Programs.{ProgramTree}
use Rattle.ob_tree.specs.declared.faults.SourceFault.{SourceFault}
use Rattle.ob_tree.specs.declared.faults.SourceFault.TheVariants as source
use Rattle.ob_sources.specs.Reading.{IsRead}
use Rattle.ob_first.specs.FirstForm.{FirstForm, HasFirstForm}
use Rattle.ob_first.specs.FirstCode.{code_of}
use Rattle.ob_first.specs.FirstRun.{Prints}
use Rattle.ob_first.specs.declared.refusal.Refusal.{Refusal}
use Rattle.ob_first.specs.declared.refusal.Refusal.TheVariants.{Fault, NotYet}

-- ---- what a text is

-- the text is that of a program whose paths keep the limit
abbrev pub IsTextOf : (text : List ℕ) → (program : ProgramTree) → Type 0
IsTextOf text program = IsRead text (Ok program)

-- the text is that of a program of no first form
pub record IsOfNoForm (text : List ℕ) : Type 0 where
  pub program : ProgramTree
  pub is_text : IsTextOf text program
  pub no_form : (form : FirstForm) → ¬ HasFirstForm program form

-- the text is that of a program of this first form
pub record IsOfForm (text : List ℕ) (form : FirstForm) : Type 0 where
  pub program : ProgramTree
  pub is_text : IsTextOf text program
  pub has_form : HasFirstForm program form

-- ---- its outcome

-- this is the fault of the text; the compiler of today finds no others, and want of memory is none of the text's
abbrev pub IsFaultOf : List ℕ → SourceFault → Type 0
IsFaultOf text (source.Lex kind line column) = IsRead text (Err (source.Lex kind line column))
IsFaultOf text (source.Syntax kind line column) = IsRead text (Err (source.Syntax kind line column))
IsFaultOf text (source.Typing kind line column) = ⊥
IsFaultOf text source.Statics = ⊥
IsFaultOf text source.Code = ⊥
IsFaultOf text source.NoMemory = ⊥

pub data Outcome : Type 0 where
  Faulty : (fault : SourceFault) → Outcome
  Later : Outcome
  First : (form : FirstForm) → Outcome

-- each text of at most 2^20 bytes comes to one outcome
abbrev pub ComesTo : List ℕ → Outcome → Type 0
ComesTo text (Outcome.Faulty fault) = IsFaultOf text fault
ComesTo text Outcome.Later = IsOfNoForm text
ComesTo text (Outcome.First form) = IsOfForm text form

-- ---- what the compiler answers

-- the text has this fault; or it was too much for memory, which says nothing of it
abbrev pub MayHaveFault : List ℕ → SourceFault → Type 0
MayHaveFault text (source.Lex kind line column) = IsFaultOf text (source.Lex kind line column)
MayHaveFault text (source.Syntax kind line column) = IsFaultOf text (source.Syntax kind line column)
MayHaveFault text (source.Typing kind line column) = ⊥
MayHaveFault text source.Statics = ⊥
MayHaveFault text source.Code = ⊥
MayHaveFault text source.NoMemory = Unit {0}

abbrev pub Refuses : List ℕ → Refusal → Type 0
Refuses text (Fault fault) = MayHaveFault text fault
Refuses text NotYet = IsOfNoForm text

-- the image is that of the text
pub record IsCompiled (text : List ℕ) (image : Image) : Type 0 where
  pub form : FirstForm
  pub is_form : IsOfForm text form
  pub image_is : image ≡ code_of form

-- ---- laws

-- the image of a source does what its program says
abbrev pub FirstFormsRun : Type 0
FirstFormsRun = (text : List ℕ) (form : FirstForm) → length text ≤ 2 ^ 20 → IsOfForm text form → Prints (code_of form) form

-- a source has fewer prints than bytes it may have
abbrev pub PrintsAreFew : Type 0
PrintsAreFew = (text : List ℕ) (form : FirstForm) → length text ≤ 2 ^ 20 → IsOfForm text form → length form.prints < 2 ^ 20
