-- Rows that are put one behind the other.
use Rattle.std.proofs.Common.{rules, ◌≡◌, ◌<◌, ℕ, zero, suc, ◌+◌, Bool, true, Option, Some, None, List, [], ◌∷◌, ◌++◌, length, drop, map, ◌⊎◌, ⊎_elim, refl, ap, sym, ◌∙◌, append_assoc}
use Rattle.std.specs.List.{All, list_all, slice_get}
use Rattle.std.proofs.lemmas.List.{append-nil}
use Rattle.std.proofs.lemmas.List.Folds.{list_all-map}
use Rattle.std.proofs.lemmas.List.Recursion.{and_at}
use Rattle.std.proofs.lemmas.Option.{slice_get_within, get_or_from_slice_get}
use Rattle.ob_homes.proofs.HomeLists.{opened_map}
use Rattle.ob_tree.specs.declared.types.CType.{CType}
use Rattle.ob_tree.specs.Sizes.{IsComplete, is_complete}
use Rattle.ob_tree.specs.Types.{PlainStructs, PlainType}
use Rattle.ob_tree.specs.TypeView.{plain_type, plain_types}
use Rattle.ob_code.specs.declared.image.LocalRow.{LocalRow}
use Rattle.ob_code.specs.declared.image.NameRow.{NameRow}
use Rattle.ob_typed.specs.declared.names.VarName.{VarName}
use Rattle.ob_lower.specs.Names.{variable_names}
use Rattle.ob_lower.specs.Homes.{Home}
use Rattle.ob_lower.specs.Functions.{row_first, rows_from}

-- of all rows so many stand, and then one piece more
pub taken : {A : Type 0} (whole rows all piece rest later : List A) → whole ≡ rows ++ all → all ≡ piece ++ rest → later ≡ rows ++ piece → whole ≡ later ++ rest
taken whole rows all piece rest later is opens pushed =
    is ∙ (ap (λ xs. rows ++ xs) opens ∙ (sym (append_assoc rows piece rest) ∙ ap (λ xs. xs ++ rest) (sym pushed)))

-- one variable more
pub more_rows : (s : PlainStructs) (i p q : ℕ) (t : PlainType) (h : Home) (ts types : List PlainType) (hs homes : List Home) (whole rows later : List LocalRow) →
    ts ≡ t ∷ types → hs ≡ h ∷ homes → ((others : ℕ → List LocalRow) → rows ++ row_first h s i p t others ≡ later ++ others q) →
    whole ≡ rows ++ rows_from s i p ts hs → whole ≡ later ++ rows_from s (i + 1) q types homes
more_rows s i p q t h ts types hs homes whole rows later first second pushed is =
    is
    ∙ (ap (λ us. rows ++ rows_from s i p us hs) first
    ∙ (ap (λ gs. rows ++ rows_from s i p (t ∷ types) gs) second
    ∙ pushed (λ r. rows_from s (i + 1) r types homes)))

-- the items from i on, where item i was found, or none
pub opened_found : {A B : Type 0} (f : A → B) (xs : List A) (i : ℕ) (x : A) → slice_get xs i ≡ Some x → drop i (map f xs) ≡ f x ∷ drop (i + 1) (map f xs)
opened_found f xs i x found = opened_map f xs i x (slice_get_within xs i x found) (sym (get_or_from_slice_get xs i x x found))

pub opened_nowhere : {A B : Type 0} (f : A → B) (xs : List A) (i : ℕ) → slice_get xs i ≡ None → drop i (map f xs) ≡ []
opened_nowhere f [] zero none = refl
opened_nowhere f [] (suc i) none = refl
opened_nowhere f (x ∷ xs) zero none = absurd (cc)
opened_nowhere f (x ∷ xs) (suc i) none = opened_nowhere f xs i none

no_rows : (s : PlainStructs) (i p : ℕ) (ts : List PlainType) → rows_from s i p ts [] ≡ []
no_rows s i p [] = refl
no_rows s i p (t ∷ ts) = refl

pub rows_end : (s : PlainStructs) (i p : ℕ) (ts : List PlainType) (hs : List Home) (whole rows : List LocalRow) → hs ≡ [] →
    whole ≡ rows ++ rows_from s i p ts hs → rows ≡ whole
rows_end s i p ts hs whole rows none is =
    sym (is ∙ (ap (λ gs. rows ++ rows_from s i p ts gs) none ∙ (ap (λ rs. rows ++ rs) (no_rows s i p ts) ∙ append-nil rows)))

no_names : (holder i : ℕ) (ns : List VarName) (ts : List PlainType) (hs : List Home) → (ts ≡ []) ⊎ (hs ≡ []) → variable_names holder i ns ts hs ≡ []
no_names holder i [] ts hs none = refl
no_names holder i (n ∷ ns) [] hs none = refl
no_names holder i (n ∷ ns) (t ∷ ts) [] none = refl
no_names holder i (n ∷ ns) (t ∷ ts) (h ∷ hs) none = absurd (⊎_elim (λ (e : t ∷ ts ≡ []). cc) (λ (e : h ∷ hs ≡ []). cc) none)

pub names_end : (holder i : ℕ) (ns : List VarName) (ts : List PlainType) (hs : List Home) (whole rows : List NameRow) → (ts ≡ []) ⊎ (hs ≡ []) →
    whole ≡ rows ++ variable_names holder i ns ts hs → rows ≡ whole
names_end holder i ns ts hs whole rows none is = sym (is ∙ (ap (λ rs. rows ++ rs) (no_names holder i ns ts hs none) ∙ append-nil rows))

-- types that pass are complete
pub all_complete : (s : PlainStructs) (xs : List CType) → list_all (λ t. is_complete s (plain_type t)) xs ≡ true → All (IsComplete s) (plain_types xs)
all_complete s xs pass k d within =
    let at = and_at (list_all (is_complete s)) (is_complete s) refl (λ _ _. refl) (plain_types xs) k d within (list_all-map (is_complete s) plain_type xs ∙ pass) in
    search rules
