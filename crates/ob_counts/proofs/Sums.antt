-- Sums over the items of a vector.
use Rattle.std.proofs.Common.{◌≡◌, ℕ, ◌+◌, List, [], ◌∷◌, refl, ap, ◌∙◌}
use Rattle.std.specs.List.{sum_by}
use Rattle.std.proofs.lemmas.List.Recursion.{is_sum_by}

-- a sum from the first item on
abbrev pub total : {A : Type 0} → (A → ℕ) → List A → ℕ
total f [] = 0
total f (x ∷ xs) = f x + total f xs

-- the sum over a vector, whose items are those of its row
pub summed : {A : Type 0} (f : A → ℕ) (xs ys : List A) → xs ≡ ys → total f xs ≡ sum_by f ys
summed f xs ys h = ap (total f) h ∙ is_sum_by (total f) f refl (λ _ _. refl) ys
