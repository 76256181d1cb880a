-- A text that grows by a piece for each item of a list.
use Rattle.std.proofs.Common.{◌≡◌, ℕ, ◌+◌, suc, zero, List, [], ◌∷◌, ◌++◌, drop, Some, None, slice_get, ap, sym, ◌∙◌, append_assoc}
use native.Mathlib.Numerals.{unary_clauses}
use Rattle.std.proofs.Math.Seq.{drop-cons, drop-nil}
use Rattle.std.proofs.lemmas.Option.{none-some, slice_get_within, get_or_from_slice_get}

-- the items from number i on are this one and those behind it
pub next : {X : Type 0} (xs : List X) (i : ℕ) (x : X) → slice_get xs i ≡ Some x → drop i xs ≡ x ∷ drop (i + 1) xs
next xs i x here =
    simp unary_clauses (drop-cons xs i x (slice_get_within xs i x here) ∙ ap (λ y. y ∷ drop (suc i) xs) (get_or_from_slice_get xs i x x here))

-- where there is no item of number i, none is left
pub ended : {X : Type 0} (xs : List X) (i : ℕ) → slice_get xs i ≡ None → drop i xs ≡ []
ended [] i none = drop-nil i
ended (x ∷ xs) zero none = absurd (none-some x (sym none))
ended (x ∷ xs) (suc i) none = ended xs i none

-- the text grew by the first piece of the rest
pub moved : (text longer piece rest behind whole : List ℕ) → text ++ rest ≡ whole → rest ≡ piece ++ behind → longer ≡ text ++ piece → longer ++ behind ≡ whole
moved text longer piece rest behind whole before split grown =
    ap (λ x. x ++ behind) grown ∙ append_assoc text piece behind ∙ ap (λ x. text ++ x) (sym split) ∙ before
