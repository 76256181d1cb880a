use Rattle.std.proofs.Common.{◌≡◌, ℕ, [], ◌∷◌, refl, sym, ◌∙◌}
use Rattle.std.specs.Prelude.{IsTrue}
use Rattle.ob_tree.specs.Bytes.{is_digit, is_letter, is_name_byte}
use Rattle.ob_tree.specs.Fronts.{lines}
use Rattle.ob_tree.specs.ProgramSpelling.{spell_program}
use Rattle.ob_tree.specs.ProgramPlaces.{place_item, place_program, PlacedProgram}
use Rattle.ob_library.specs.declared.library.LibraryFunction.{LibraryFunction}
use Rattle.ob_library.specs.declared.library.LibraryFunction.TheVariants as f
use Rattle.ob_library.specs.Library.{tree_of}
use Rattle.ob_library.specs.Texts.{text_of}
use Rattle.ob_library.proofs.Grammar.{item_fits, item_valid}
use Rattle.ob_library.proofs.laws.law_library.Goals as goal

pub returns-clause-spelled : goal.returns-clause-spelled
unfolding tree_of
returns-clause-spelled c f.Strlen = refl
returns-clause-spelled c _ = refl

fits : (lines : ℕ → ℕ) (g : LibraryFunction) → IsTrue (item_fits (place_item lines 0 (tree_of g)))
unfolding tree_of is_digit is_letter is_name_byte
fits lines f.Strlen = refl
fits lines _ = refl

placed : (lines : ℕ → ℕ) (g : LibraryFunction) → PlacedProgram lines (place_program lines 0 (tree_of g ∷ []))
unfolding tree_of
placed lines f.Strlen = refl
placed lines _ = refl

spelled : (lines : ℕ → ℕ) (g : LibraryFunction) → spell_program (place_program lines 0 (tree_of g ∷ [])) ≡ text_of g
unfolding tree_of
spelled lines f.Strlen = refl
spelled lines _ = refl

valid_fits : (g : LibraryFunction) → IsTrue (item_fits (tree_of g))
unfolding tree_of is_digit is_letter is_name_byte
valid_fits f.Strlen = refl
valid_fits _ = refl

pub returns-clause-valid : goal.returns-clause-valid
returns-clause-valid c g = item_valid (tree_of g) (valid_fits g)

pub returns-clause-program : goal.returns-clause-program
returns-clause-program c g tokens e = record {
  valid = (item_valid (place_item (lines tokens) 0 (tree_of g)) (fits (lines tokens) g), tt);
  placed = placed (lines tokens) g;
  spelled = spelled (lines tokens) g ∙ sym e;
}

pub returns-clause-nowhere : goal.returns-clause-nowhere
unfolding tree_of
returns-clause-nowhere c f.Strlen = refl
returns-clause-nowhere c _ = refl
