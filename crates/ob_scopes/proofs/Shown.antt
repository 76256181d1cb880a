-- Bindings looked up as declarations.
use Rattle.std.proofs.Common.{◌≡◌, ℕ, Option, Some, List, [], ◌∷◌, map, refl, sym, ap, ◌∙◌, ⊎_elim, if◌then◌else◌}
use Rattle.std.specs.Prelude.{option_map}
use Rattle.std.specs.Str.{bytes_eq}
use Rattle.std.proofs.lemmas.Bool.{cases_Bool, cond-true, cond-false}
use Rattle.std.proofs.lemmas.Slice.Eq.{bytes_eq-Decides}
use Rattle.ob_typed.specs.Scopes.{find, find_tag}
use Rattle.ob_scopes.specs.declared.names.Named.{Named}
use Rattle.ob_scopes.specs.declared.tags.Tag.{Tag}
use Rattle.ob_scopes.specs.Bindings.{bound}
use Rattle.ob_scopes.specs.Names.{declared_as}
use Rattle.ob_scopes.specs.Tags.{tag_as}

-- a look-up that goes through declarations is that through bindings, where both go by names
module _ {T D : Type 0} (shown : List ℕ × T → D) (name : List ℕ) where
  abbrev seen : Option T → Option D
  seen o = option_map (λ v. shown (name, v)) o

  first : (b : List ℕ × T) (bs : List (List ℕ × T)) (rest : Option D) → rest ≡ seen (bound name bs) → (if bytes_eq b.0 name then Some (shown b) else rest) ≡ seen (bound name (b ∷ bs))
  first b bs rest h =
      ⊎_elim
      (λ y. cond-true (bytes_eq b.0 name) (Some (shown b)) rest y ∙ ap (λ x. Some (shown (x, b.1))) ((bytes_eq-Decides b.0 name).0 y) ∙ sym (ap seen (cond-true (bytes_eq b.0 name) (Some b.1) (bound name bs) y)))
      (λ n. cond-false (bytes_eq b.0 name) (Some (shown b)) rest n ∙ h ∙ sym (ap seen (cond-false (bytes_eq b.0 name) (Some b.1) (bound name bs) n)))
      (cases_Bool (bytes_eq b.0 name))

pub find-declared : (name : List ℕ) (bs : List (List ℕ × Named)) → find name (map declared_as bs) ≡ option_map (λ n. declared_as (name, n)) (bound name bs)
find-declared name [] = refl
find-declared name (b ∷ bs) = first declared_as name b bs (find name (map declared_as bs)) (find-declared name bs)

pub find-tag : (name : List ℕ) (bs : List (List ℕ × Tag)) → find_tag name (map tag_as bs) ≡ option_map (λ n. tag_as (name, n)) (bound name bs)
find-tag name [] = refl
find-tag name (b ∷ bs) = first tag_as name b bs (find_tag name (map tag_as bs)) (find-tag name bs)
