-- The indexes that are kept stay right as structures are declared and completed, and as one more index is kept.
use Rattle.std.proofs.Common.{◌≡◌, ◌≢◌, ℕ, zero, suc, ◌≤◌, true, Option, Some, None, List, [], ◌∷◌, ◌++◌, Box, Global, length, slice_get, slice_set, refl, sym, ap, arith, ◌∙◌, ⊎_elim, subst}
use Rattle.std.specs.Prelude.{OnErr, OnOk, Result, Ok, Err, option_and_then}
use Rattle.std.proofs.lemmas.Option.{none-some}
use Rattle.std.proofs.lemmas.Bool.{cases_eq}
use Rattle.std.proofs.lemmas.List.{length-append, length-set}
use Rattle.ob_tree.specs.Types.{PlainMember, PlainStruct, PlainStructs, unknown_struct, with_members}
use Rattle.ob_tree.proofs.KeptLayouts.{Extends, extends_members, get_set_other}
use Rattle.ob_members.specs.declared.building.Index.{Index}
use Rattle.ob_members.specs.Indexes.{AreRight, IsIndex, index_in, kept_index}
use Rattle.ob_members.proofs.MemberPlaces.{index_kept}

abbrev Kept : Type 0
Kept = Option (Box Index Global)

-- ---- one more structure

past : (n : ℕ) → kept_index (None ∷ []) n ≡ None
past zero = refl
past (suc n) = refl

pushed : (is : List Kept) (n : ℕ) → kept_index (is ++ None ∷ []) n ≡ kept_index is n
pushed [] n = past n
pushed (x ∷ xs) zero = refl
pushed (x ∷ xs) (suc n) = pushed xs n

pub right_pushed : (s : PlainStructs) (is : List Kept) → AreRight s is → AreRight s (is ++ None ∷ [])
right_pushed s is h n i at = h n i (sym (pushed is n) ∙ at)

extends : (s t : PlainStructs) (is : List Kept) → Extends s t → length s ≤ length t → AreRight s is → AreRight t is
extends s t is e less h n i at = index_kept s t n i.places.bindings e less (h n i at)

get_before : (s : PlainStructs) (x r : PlainStruct) (n : ℕ) → slice_get s n ≡ Some r → slice_get (s ++ x ∷ []) n ≡ Some r
get_before [] x r n is = absurd (none-some r is)
get_before (y ∷ ys) x r zero is = is
get_before (y ∷ ys) x r (suc n) is = get_before ys x r n is

pub right_declared : (s : PlainStructs) (is : List Kept) → AreRight s is → AreRight (s ++ unknown_struct ∷ []) is
right_declared s is h =
    extends s (s ++ unknown_struct ∷ []) is (λ n r at c. get_before s unknown_struct r n at) (omega (arith, length-append s (unknown_struct ∷ []))) h

pub right_either : {A E : Type 0} (s t u : PlainStructs) (is : List Kept) (r : Result A E) → OnOk r (u ≡ t) → OnErr r (u ≡ s) → AreRight t is → AreRight s is → AreRight u is
right_either s t u is (Ok x) ok err h k = subst (λ v. AreRight v is) (sym ok) h
right_either s t u is (Err e) ok err h k = subst (λ v. AreRight v is) (sym err) k

-- ---- members

pub right_completed : (s : PlainStructs) (is : List Kept) (n : ℕ) (ms : List PlainMember) → slice_get s n ≡ Some unknown_struct → AreRight s is → AreRight (with_members s n ms) is
right_completed s is n ms bare h =
    extends s (with_members s n ms) is (extends_members s n ms bare) (omega (arith, length-set s n (record { complete = true; members = ms }))) h

-- ---- one more index

here : (is : List Kept) (b : Box Index Global) (n : ℕ) (i : Index) → kept_index (slice_set is n (Some b)) n ≡ Some i → b.value ≡ i
here [] b n i at = absurd (none-some i at)
here (x ∷ xs) b zero i at = cc
here (x ∷ xs) b (suc n) i at = here xs b n i at

pub right_set : (s : PlainStructs) (is : List Kept) (b : Box Index Global) (n : ℕ) → IsIndex s n b.value.places.bindings → AreRight s is → AreRight s (slice_set is n (Some b))
right_set s is b n right h m i at = ⊎_elim
    (λ (same : m ≡ n).
    let is_i = here is b n i (ap (λ k. kept_index (slice_set is n (Some b)) k) (sym same) ∙ at) in
    subst (λ k. IsIndex s k i.places.bindings) (sym same) (subst (λ (j : Index). IsIndex s n j.places.bindings) is_i right))
    (λ (other : m ≢ n). h m i (sym (ap (option_and_then index_in) (get_set_other is (Some b) n m other)) ∙ at))
    (cases_eq m n)
