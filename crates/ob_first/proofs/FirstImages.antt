-- What reading the tokens of a program says of the program, and of the image that was made meanwhile.
use Rattle.std.proofs.Common.{◌≡◌, ◌≢◌, ℕ, ◌⊎◌, ◌^◌, ◌<◌, ◌≤◌, List, length, Option, Some, None, refl, sym, ap, subst, ◌∙◌, arith, inl, inr}
use Rattle.ob_flat.specs.Laws.{FieldIsRead, LayoutIsKept, OtherFieldsAreKept, OthersAreKeptByZeros}
use Rattle.ob_code.specs.declared.image.Image.{Image}
use Rattle.ob_code.specs.declared.instructions.Instr.{Instr}
use Rattle.ob_code.specs.Rules.{IsVerified}
use Rattle.ob_tree.specs.declared.tokens.TokenKind.{TokenKind}
use Rattle.ob_tree.specs.Programs.{ProgramTree}
use Rattle.ob_tree.specs.ProgramSpelling.{spell_program}
use Rattle.ob_first.specs.declared.first_form.Place.{Place}
use Rattle.ob_first.specs.declared.first_form.Place.TheVariants as place
use Rattle.ob_first.specs.FirstCode.{first_code, only_main, code_of}
use Rattle.ob_first.specs.FirstForm.{FirstForm, HasFirstForm, first_kinds}
use Rattle.ob_first.specs.FirstReading.{Reading, ended, read_all}
use Rattle.ob_first.specs.Sources.{FirstFormsRun, IsOfForm, PrintsAreFew}
use Rattle.ob_sources.proofs.FewKinds.{few_of_text as few_kinds_of_text}
use Rattle.ob_first.proofs.FirstForms.{IsRead, is_read}
use Rattle.ob_first.proofs.FirstReadings.{at_same, read_first_form}
use Rattle.ob_first.proofs.FirstRuns.{prints}
use Rattle.ob_first.proofs.FirstVerified.{first_length, prints_length, verified}

-- a program of the first form that has few tokens prints little
pub few_prints : (p : ProgramTree) (f : FirstForm) → HasFirstForm p f → length (spell_program p) ≤ 2 ^ 20 → length f.prints < 2 ^ 20
few_prints p f h few = omega (arith, prints_length f, ap length h.spelled)

pub no_form : (p : ProgramTree) (kinds : List TokenKind) → kinds ≡ spell_program p → ((code : List Instr) → ¬ (read_all kinds ≡ ended code)) → (f : FirstForm) → ¬ HasFirstForm p f
no_form p kinds spelled none f h = none (first_code f) (ap read_all (spelled ∙ h.spelled) ∙ read_first_form f h.sums)

-- a reading has come to the end or it hasn't
at_end : (q : Place) → (q ≡ place.End) ⊎ (q ≢ place.End)
at_end place.End = inl refl
at_end q = inr (λ e. cc)

-- a program has a first form or it hasn't
pub form_or_none : (p : ProgramTree) → ((f : FirstForm) × HasFirstForm p f) ⊎ ((f : FirstForm) → ¬ HasFirstForm p f)
form_or_none p = by_reading (read_all (spell_program p)) refl
  where
    by_place : (r : Reading) → read_all (spell_program p) ≡ Some r → (r.place ≡ place.End) ⊎ (r.place ≢ place.End) → ((f : FirstForm) × HasFirstForm p f) ⊎ ((f : FirstForm) → ¬ HasFirstForm p f)
    by_place r e (inl end) =
        let what = is_read (spell_program p) r.code (e ∙ (λ i. Some (record { place = end i; code = r.code }))) in
        inl (what.form, record { sums = what.sums; spelled = what.spelled })
    by_place r e (inr other) = inr (no_form p (spell_program p) refl (λ code is. other (at_same place.End r.place code r.code (sym is ∙ e)).0))

    by_reading : (o : Option Reading) → read_all (spell_program p) ≡ o → ((f : FirstForm) × HasFirstForm p f) ⊎ ((f : FirstForm) → ¬ HasFirstForm p f)
    by_reading None e = inr (no_form p (spell_program p) refl (λ code is. let never : None ≡ ended code = sym e ∙ is in cc))
    by_reading (Some r) e = by_place r e (at_end r.place)

module _ (p : ProgramTree) (kinds : List TokenKind) (code : List Instr) (image : Image) (spelled : kinds ≡ spell_program p) (read : read_all kinds ≡ ended code) (few : length (spell_program p) ≤ 2 ^ 20) (is : image ≡ only_main code) where
  what : IsRead kinds code
  what = is_read kinds code read

  few_kinds : length (first_kinds what.form) ≤ 2 ^ 20
  few_kinds = omega (arith, ap length (sym spelled ∙ what.spelled))

  image_is : image ≡ only_main (first_code what.form)
  image_is = is ∙ ap only_main what.code_is

  pub can_run : IsVerified image
  can_run = subst IsVerified (sym image_is) (verified what.form few_kinds)

  pub has_form : (f : FirstForm) × HasFirstForm p f × (image ≡ code_of f)
  has_form =
      (what.form, record { sums = what.sums; spelled = sym spelled ∙ what.spelled }, image_is)

-- ---- a text of the first form

few_tokens : (text : List ℕ) (form : FirstForm) → length text ≤ 2 ^ 20 → (is : IsOfForm text form) → length (spell_program is.program) ≤ 2 ^ 20
few_tokens text form short is = few_kinds_of_text text is.program short is.is_text

pub few_of_text : PrintsAreFew
few_of_text text form short is = few_prints is.program form is.has_form (few_tokens text form short is)

pub runs_of_text : FieldIsRead → OtherFieldsAreKept → OthersAreKeptByZeros → LayoutIsKept → FirstFormsRun
runs_of_text fields others zeros layout text form short is =
    prints form fields others zeros layout is.has_form.sums (omega (arith, first_length form, ap length is.has_form.spelled, few_tokens text form short is))
