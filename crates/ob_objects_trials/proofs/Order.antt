-- What the order of the entries says of a search.
use Rattle.std.proofs.Common.{◌≡◌, ℕ, zero, suc, ◌+◌, ◌-◌, ◌<◌, ◌≤◌, Bool, true, false, List, [], ◌∷◌, length, get_or, arith, Some, None, ap, ⊎_elim, ◌∙◌, refl}
use Rattle.std.specs.Prelude.{nat_le}
use Rattle.std.specs.List.{find}
use Rattle.std.proofs.lemmas.Bool.{cases_lt, cases_eq, and_from, and_left, and_right, le-leb, lt-leb, cond-true, cond-false}
use Rattle.std.proofs.lemmas.List.{get_or_default}
use Rattle.ob_model.specs.declared.objects.Entry.{Entry}
use Rattle.ob_model.specs.declared.objects.Sort.TheVariants.{Static}
use Rattle.ob_model.specs.Entries.{entry_at, holds_address}
use Rattle.ob_objects.specs.Objects.{IsInOrder}
use Rattle.ob_objects_trials.specs.Sorted.{Splits}

-- `find` by index
pub find_first : {X : Type 0} (p : X → Bool) (xs : List X) (d : X) (i : ℕ) → i < length xs → p (get_or xs i d) ≡ true → ((k : ℕ) → k < i → p (get_or xs k d) ≡ false) → find p xs ≡ Some (get_or xs i d)
find_first p [] d i within here before = absurd (omega arith)
find_first p (x ∷ xs) d zero within here before = cond-true (p x) (Some x) (find p xs) here
find_first p (x ∷ xs) d (suc i) within here before =
    cond-false (p x) (Some x) (find p xs) (before 0 (omega arith))
    ∙ find_first p xs d i (omega arith) here (λ k below. before (suc k) (omega arith))

pub find_none : {X : Type 0} (p : X → Bool) (xs : List X) (d : X) → ((k : ℕ) → k < length xs → p (get_or xs k d) ≡ false) → find p xs ≡ None
find_none p [] d nowhere = refl
find_none p (x ∷ xs) d nowhere =
    cond-false (p x) (Some x) (find p xs) (nowhere 0 (omega arith))
    ∙ find_none p xs d (λ k below. nowhere (suc k) (omega arith))

-- bases rise
pub bases_rise : (entries : List Entry) (d : Entry) (i j : ℕ) → IsInOrder entries → i < j → j < length entries → (get_or entries i d).base < (get_or entries j d).base
bases_rise entries d i j in_order less within = let e = in_order i j d less within in omega arith

-- at any two defaults
pub bases_up_to : (entries : List Entry) (d e : Entry) (i j : ℕ) → IsInOrder entries → i ≤ j → j < length entries → (get_or entries i d).base ≤ (get_or entries j e).base
bases_up_to entries d e i j in_order up within =
    let same : (get_or entries j d).base ≡ (get_or entries j e).base = ap (λ (x : Entry). x.base) (get_or_default entries j d e within) in
    ⊎_elim
    (λ is. let here : (get_or entries i d).base ≡ (get_or entries j d).base = ap (λ n. (get_or entries n d).base) is in omega arith)
    (λ apart. let rise = bases_rise entries d i j in_order (omega arith) within in omega arith)
    (cases_eq i j)

-- what a read of an index gives past the end
abbrev pub no_entry : Entry
no_entry = record { base = 0; size = 0; object = 0; sort = Static }

not_above : (address : ℕ) (e : Entry) → e.base + e.size < address → holds_address address e ≡ false
not_above address e past = and_right (nat_le e.base address) (nat_le address (e.base + e.size)) (lt-leb address (e.base + e.size) past)

not_below : (address : ℕ) (e : Entry) → address < e.base → holds_address address e ≡ false
not_below address e before = and_left (nat_le e.base address) (nat_le address (e.base + e.size)) (lt-leb e.base address before)

module _ (entries : List Entry) (address at : ℕ) (d : Entry) (in_order : IsInOrder entries) (splits : Splits entries address at) where
  -- an address names no entry but the last whose base is at most it
  others_end : (k : ℕ) → k + 1 < at → holds_address address (get_or entries k d) ≡ false
  others_end k early =
      let within = splits.within in
      let e = in_order k (k + 1) d (omega arith) (omega arith) in
      let f = splits.before (k + 1) d early in
      not_above address (get_or entries k d) (omega arith)

  pub entry_at-last : 0 < at → address ≤ (get_or entries (at - 1) d).base + (get_or entries (at - 1) d).size → entry_at address entries ≡ Some (get_or entries (at - 1) d)
  entry_at-last some inside =
      let within = splits.within in
      let base = splits.before (at - 1) d (omega arith) in
      find_first (holds_address address) entries d (at - 1) (omega arith)
      (and_from _ _ (le-leb _ _ base) (le-leb _ _ inside))
      (λ k less. others_end k (omega arith))

  pub entry_at-none : (0 < at → (get_or entries (at - 1) d).base + (get_or entries (at - 1) d).size < address) → entry_at address entries ≡ None
  entry_at-none past =
      find_none (holds_address address) entries d (λ k below.
      ⊎_elim
      (λ early. ⊎_elim
      (λ last. let e : k ≡ at - 1 = omega arith in
      ap (λ i. holds_address address (get_or entries i d)) e ∙ not_above address (get_or entries (at - 1) d) (past (omega arith)))
      (λ more. others_end k (omega arith))
      (cases_eq (k + 1) at))
      (λ late. not_below address (get_or entries k d) (splits.after k d late below))
      (cases_lt k at))
