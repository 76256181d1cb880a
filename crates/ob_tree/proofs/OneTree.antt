-- Trees that stand at one place and spell the same tokens are the same.
use Rattle.std.proofs.Common.{◌≡◌, ℕ, [], Some, sym, ◌∙◌, ap, arith}
use Rattle.ob_tree.specs.Trees.{ExprTree, SpecTree}
use Rattle.ob_tree.specs.Spelling.{spell, spell_spec}
use Rattle.ob_tree.specs.Valid.{Valid, ValidSpec}
use Rattle.ob_tree.specs.Places.{place, place_spec, PlacedExpr, PlacedSpec}
use Rattle.ob_tree.specs.ExprStates.{BeforeOperand, Specifier, AfterSpec, no_level}
use Rattle.ob_tree.specs.ExprMachine.{finish, finish_spec, whole_of, run}
use Rattle.ob_tree.proofs.PlaceKeeps.{valid-place}
use Rattle.ob_tree.proofs.Unreduced.{state_behind, reduce-behind, binds-comma}
use Rattle.ob_tree.proofs.Through.{through, through-spec}

-- what the machine finishes with behind a whole tree
pub finish-behind : (t : ExprTree) → Valid t → finish (state_behind t []) ≡ Some t
finish-behind t v = ap whole_of (reduce-behind 0 0 t [] binds-comma (v, omega arith) (omega arith))

pub one-expression : (lines : ℕ → ℕ) (p : ℕ) (e f : ExprTree) → Valid e → Valid f → PlacedExpr lines p e → PlacedExpr lines p f → spell e ≡ spell f → e ≡ f
one-expression lines p e f v w a b s =
    let c : Some (state_behind (place lines p e) []) ≡ Some (state_behind (place lines p f) []) =
    sym (through lines 0 e p [] (v, omega arith)) ∙ ap (λ ks. run lines 0 p ks (Some (BeforeOperand []))) s ∙ through lines 0 f p [] (w, omega arith) in
    let d : state_behind (place lines p e) [] ≡ state_behind (place lines p f) [] = cc in
    let g : Some (place lines p e) ≡ Some (place lines p f) =
    sym (finish-behind (place lines p e) (valid-place lines p e v)) ∙ ap finish d ∙ finish-behind (place lines p f) (valid-place lines p f w) in
    let h : place lines p e ≡ place lines p f = cc in
    sym a ∙ h ∙ b

pub one-specifier : (lines : ℕ → ℕ) (p : ℕ) (s t : SpecTree) → ValidSpec s → ValidSpec t → PlacedSpec lines p s → PlacedSpec lines p t → spell_spec s ≡ spell_spec t → s ≡ t
one-specifier lines p s t v w a b e =
    let c : Some (AfterSpec (place_spec lines p s) []) ≡ Some (AfterSpec (place_spec lines p t) []) =
    sym (through-spec lines no_level s p [] v) ∙ ap (λ ks. run lines no_level p ks (Some (Specifier []))) e ∙ through-spec lines no_level t p [] w in
    let d : AfterSpec (place_spec lines p s) [] ≡ AfterSpec (place_spec lines p t) [] = cc in
    let g : Some (place_spec lines p s) ≡ Some (place_spec lines p t) = ap finish_spec d in
    let h : place_spec lines p s ≡ place_spec lines p t = cc in
    sym a ∙ h ∙ b
