-- Structures whose member lists are open, kept in the other order.
use Rattle.std.proofs.Common.{◌≡◌, ℕ, List, [], ◌∷◌, reverse, refl, ap, ◌∙◌}
use Rattle.std.specs.Prelude.{nat_eq, ◌||◌}
use Rattle.std.specs.List.{list_any}
use Rattle.std.proofs.lemmas.List.Sorted.{IsPermutation-reverse, list_any-IsPermutation}
use Rattle.ob_typed.specs.Specifiers.{is_around}

around-any : (n : ℕ) (ms : List ℕ) → list_any (λ m. nat_eq m n) ms ≡ is_around n ms
around-any n [] = refl
around-any n (m ∷ ms) = ap (λ b. nat_eq m n || b) (around-any n ms)

pub around-reverse : (n : ℕ) (ms : List ℕ) → list_any (λ m. nat_eq m n) ms ≡ is_around n (reverse ms)
around-reverse n ms =
    list_any-IsPermutation (λ m. nat_eq m n) ms (reverse ms) (IsPermutation-reverse ms) ∙ around-any n (reverse ms)
