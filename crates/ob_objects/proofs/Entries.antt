-- What the entries of a tree that is split at an address say of the answers.
use Rattle.std.proofs.Common.{◌≡◌, ℕ, ◌+◌, ◌==◌, Bool, true, false, not, List, [], ◌∷◌, ◌++◌, ap, ◌∙◌, refl, arith, Option, Some, None}
use Rattle.std.specs.Prelude.{nat_le, cond}
use Rattle.std.specs.List.{AllByRecursion, find, filter}
use Rattle.std.proofs.lemmas.Bool.{and_from, and_left, and_right, le-leb, lt-leb, lt-ltb, le-ltb, eq-eqb, ne_eqb, cond-true, cond-false}
use Rattle.ob_model.specs.declared.objects.Entry.{Entry}
use Rattle.ob_model.specs.Ordered.{before_or_after}
use Rattle.ob_model.specs.Entries.{entry_at, at_base, with_entry, without_base, holds_address}
use Rattle.ob_objects.specs.declared.node.Side.{Side}
use Rattle.ob_objects.specs.declared.node.Side.TheVariants.{Less, More}
use Rattle.ob_objects.specs.Nodes.{side_of}
use Rattle.ob_objects.specs.Trees.{IsPast, IsAhead}
use Rattle.ob_objects.specs.Arena.{entry_if}
use Rattle.ob_objects.proofs.Steps.{side_more, side_less, side_none}

-- ---- searches

module _ (P : Entry → Type 0) (p : Entry → Bool) (no : (e : Entry) → P e → p e ≡ false) where
  pub find_none : (xs : List Entry) → AllByRecursion P xs → find p xs ≡ None
  find_none [] all = refl
  find_none (x ∷ xs) all = cond-false (p x) (Some x) (find p xs) (no x all.0) ∙ find_none xs all.1

  pub find_behind : (xs ys : List Entry) → AllByRecursion P xs → find p (xs ++ ys) ≡ find p ys
  find_behind [] ys all = refl
  find_behind (x ∷ xs) ys all = cond-false (p x) (Some x) (find p (xs ++ ys)) (no x all.0) ∙ find_behind xs ys all.1

module _ (P : Entry → Type 0) (p : Entry → Bool) (yes : (e : Entry) → P e → p e ≡ true) where
  pub filter_all : (xs : List Entry) → AllByRecursion P xs → filter p xs ≡ xs
  filter_all [] all = refl
  filter_all (x ∷ xs) all = cond-true (p x) (x ∷ filter p xs) (filter p xs) (yes x all.0) ∙ ap (λ (es : List Entry). x ∷ es) (filter_all xs all.1)

  pub filter_front : (xs ys : List Entry) → AllByRecursion P xs → filter p (xs ++ ys) ≡ xs ++ filter p ys
  filter_front [] ys all = refl
  filter_front (x ∷ xs) ys all = cond-true (p x) (x ∷ filter p (xs ++ ys)) (filter p (xs ++ ys)) (yes x all.0) ∙ ap (λ (es : List Entry). x ∷ es) (filter_front xs ys all.1)

-- ---- the entry that an address names

past_not : (address : ℕ) (e : Entry) → IsPast address e → holds_address address e ≡ false
past_not address e past = and_right (nat_le e.base address) (nat_le address (e.base + e.size)) (lt-leb address (e.base + e.size) past)

ahead_not : (address : ℕ) (e : Entry) → IsAhead address e → holds_address address e ≡ false
ahead_not address e ahead = and_left (nat_le e.base address) (nat_le address (e.base + e.size)) (lt-leb e.base address ahead)

holder : (address : ℕ) (e : Entry) (o : Option Side) → side_of address e ≡ o → cond (holds_address address e) (Some e) None ≡ entry_if o e
holder address e None is = cond-true (holds_address address e) (Some e) None (let p = side_none address e is in and_from _ _ (le-leb _ _ p.0) (le-leb _ _ p.1))
holder address e (Some Less) is = cond-false (holds_address address e) (Some e) None (ahead_not address e (side_less address e is))
holder address e (Some More) is = cond-false (holds_address address e) (Some e) None (past_not address e (side_more address e is))

pub entry_at-split : (address : ℕ) (xs : List Entry) (e : Entry) (ys : List Entry) → AllByRecursion (IsPast address) xs → AllByRecursion (IsAhead address) ys → entry_at address (xs ++ e ∷ ys) ≡ entry_if (side_of address e) e
entry_at-split address xs e ys below above =
    find_behind (IsPast address) (holds_address address) (past_not address) xs (e ∷ ys) below
    ∙ ap (λ o. cond (holds_address address e) (Some e) o) (find_none (IsAhead address) (holds_address address) (ahead_not address) ys above)
    ∙ holder address e (side_of address e) refl

-- ---- the entry at a base

past_base : (base : ℕ) (e : Entry) → IsPast base e → (e.base == base) ≡ false
past_base base e past = ne_eqb e.base base (λ is. omega arith)

ahead_base : (base : ℕ) (e : Entry) → IsAhead base e → (e.base == base) ≡ false
ahead_base base e ahead = ne_eqb e.base base (λ is. omega arith)

module _ (base : ℕ) (xs : List Entry) (e : Entry) (ys : List Entry) (below : AllByRecursion (IsPast base) xs) (above : AllByRecursion (IsAhead base) ys) where
  at_split : at_base base (xs ++ e ∷ ys) ≡ cond (e.base == base) (Some e) None
  at_split =
      find_behind (IsPast base) (λ e. e.base == base) (past_base base) xs (e ∷ ys) below
      ∙ ap (λ o. cond (e.base == base) (Some e) o) (find_none (IsAhead base) (λ e. e.base == base) (ahead_base base) ys above)

  pub at_base-here : e.base ≡ base → at_base base (xs ++ e ∷ ys) ≡ Some e
  at_base-here is = at_split ∙ cond-true (e.base == base) (Some e) None (eq-eqb e.base base is)

  pub at_base-nowhere : (e.base ≡ base → ⊥) → at_base base (xs ++ e ∷ ys) ≡ None
  at_base-nowhere apart = at_split ∙ cond-false (e.base == base) (Some e) None (ne_eqb e.base base apart)

  without_split : without_base base (xs ++ e ∷ ys) ≡ xs ++ cond (not (e.base == base)) (e ∷ ys) ys
  without_split =
      filter_front (IsPast base) (λ e. not (e.base == base)) (λ e p. ap not (past_base base e p)) xs (e ∷ ys) below
      ∙ ap (λ (es : List Entry). xs ++ cond (not (e.base == base)) (e ∷ es) es) (filter_all (IsAhead base) (λ e. not (e.base == base)) (λ e p. ap not (ahead_base base e p)) ys above)

  pub without_base-here : e.base ≡ base → without_base base (xs ++ e ∷ ys) ≡ xs ++ ys
  without_base-here is = without_split ∙ ap (λ (es : List Entry). xs ++ es) (cond-false (not (e.base == base)) (e ∷ ys) ys (ap not (eq-eqb e.base base is)))

  pub without_base-nowhere : (e.base ≡ base → ⊥) → without_base base (xs ++ e ∷ ys) ≡ xs ++ e ∷ ys
  without_base-nowhere apart = without_split ∙ ap (λ (es : List Entry). xs ++ es) (cond-true (not (e.base == base)) (e ∷ ys) ys (ap not (ne_eqb e.base base apart)))

-- ---- one entry more

first_ahead : (e : Entry) (ys : List Entry) → AllByRecursion (IsAhead e.base) ys → with_entry e ys ≡ e ∷ ys
first_ahead e [] above = refl
first_ahead e (f ∷ fs) above = ap (λ b. before_or_after b e f fs (with_entry e fs)) (lt-ltb e.base f.base above.0)

pub with_entry-between : (e : Entry) (xs ys : List Entry) → AllByRecursion (IsPast e.base) xs → AllByRecursion (IsAhead e.base) ys → with_entry e (xs ++ ys) ≡ xs ++ e ∷ ys
with_entry-between e [] ys below above = first_ahead e ys above
with_entry-between e (f ∷ fs) ys below above =
    ap (λ b. before_or_after b e f (fs ++ ys) (with_entry e (fs ++ ys))) (le-ltb e.base f.base (let p = below.0 in omega arith))
    ∙ ap (λ (es : List Entry). f ∷ es) (with_entry-between e fs ys below.1 above)
