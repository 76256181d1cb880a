-- The front of a list: copied elsewhere, or cut off at a limit.
use Rattle.std.proofs.Common.{◌≡◌, ℕ, ◌<◌, ◌≤◌, List, [], ◌++◌, length, take, drop, Option, Some, None, sym, ap, ◌∙◌, subst, arith, length-take}
use Rattle.std.specs.Prelude.{IfSome}
use Rattle.std.specs.Option.{option_map}
use Rattle.std.proofs.lemmas.List.{take-append-drop, take_all}
use Rattle.std.proofs.Math.Seq.{take-append_seam, length-take-le}

-- a list is the n elements that were copied to the front of another, and its rest
pub copied_then_rest : {X : Type 0} (n : ℕ) (items front behind : List X) → front ≡ take n items → n ≤ length items → items ≡ take n (front ++ behind) ++ drop n items
copied_then_rest n items front behind copied within =
    let size : length front ≡ n = ap length copied ∙ length-take-le n items within in
    let front_is : take n (front ++ behind) ≡ front = subst (λ m. take m (front ++ behind) ≡ front) size (take-append_seam front behind) in
    sym (ap (λ f. f ++ drop n items) (front_is ∙ copied) ∙ take-append-drop n items)

-- a front that is shorter than it could be is the whole
pub front_whole : {X : Type 0} (most : ℕ) (items front : List X) → front ≡ take most items → length front < most → front ≡ items
front_whole most items front cut shorter =
    let all : length items ≤ most = omega (arith, ap length cut, length-take most items) in
    cut ∙ take_all most items all

-- the same where the whole may not be known
pub front_whole_known : (most : ℕ) (known : Option (List ℕ)) (front : List ℕ) → IfSome (option_map (take most) known) (λ items. front ≡ [] ++ items) → length front < most → IfSome known (λ items. front ≡ items)
front_whole_known most None front cut shorter = tt
front_whole_known most (Some items) front cut shorter = front_whole most items front cut shorter
