-- Membership in lists of objects, once there are others, or fewer.
use Rattle.std.proofs.Common.{◌≡◌, ℕ, zero, suc, ◌<◌, ◌≤◌, Bool, true, false, cond, nat_lt, List, [], ◌∷◌, length, map, Some, All, arith, ap, sym, subst, ◌∙◌, refl, ⊎_elim, ◌⊎◌, inl, inr}
use Rattle.std.specs.Prelude.{slice_index_or}
use Rattle.std.specs.List.{Contains, filter, find, AllPairs}
use Rattle.std.proofs.lemmas.Bool.{cases_Bool, cases_lt, cond-false, cond-true}
use Rattle.std.proofs.lemmas.List.{get_or-map, length-map}
use Rattle.std.proofs.lemmas.List.Elements.{All-cons, All-head, All-tail, All-contains, All-contains_itself, All-weaker, All-filter, All-nil, filter_passes, Contains-append_left, Contains-append_right, Contains-append_cases, Contains-push, Contains-push_cases}
use Rattle.ob_model.specs.Entries.{Known, with_known, with_live}
use Rattle.ob_model.specs.Ordered.{before_or_after}
use Rattle.ob_code.specs.declared.image.LocalRow.{LocalRow}
use Rattle.ob_code.specs.Frames.{local_entry, with_locals}
use Rattle.ob_pointers.specs.Pointing.{HaveTwoNumbers}
use Rattle.ob_lifetimes.specs.Living.{AreKnown}

-- ---- lists of anything

pub contains_here : {X : Type 0} (x : X) (xs : List X) → Contains (x ∷ xs) x
contains_here x xs = Contains-append_left (x ∷ []) xs x (Contains-push [] x)

pub contains_behind : {X : Type 0} (y : X) (xs : List X) (x : X) → Contains xs x → Contains (y ∷ xs) x
contains_behind y xs x h = Contains-append_right (y ∷ []) xs x h

-- what all elements of one list are among, each element is among
pub all_from_members : {X : Type 0} (P : X → Type 0) (xs : List X) → ((x : X) → Contains xs x → P x) → All P xs
all_from_members P xs f = All-weaker (Contains xs) P f xs (All-contains_itself xs)

pub contains_cases : {X : Type 0} (y : X) (ys : List X) (x : X) → Contains (y ∷ ys) x → (y ≡ x) ⊎ Contains ys x
contains_cases {X} y ys x h =
    ⊎_elim
    (λ (one : Contains (y ∷ []) x).
    ⊎_elim (λ (none : Contains {X = X} [] x). absurd (omega (arith, none.1))) (λ (same : y ≡ x). inl same) (Contains-push_cases [] y x one))
    (λ (other : Contains ys x). inr other)
    (Contains-append_cases (y ∷ []) ys x h)

pub contains_filter : {X : Type 0} (p : X → Bool) (xs : List X) (x : X) → Contains xs x → p x ≡ true → Contains (filter p xs) x
contains_filter p [] x h met = absurd (omega (arith, h.1))
contains_filter {X} p (y ∷ ys) x h met =
    let P : List X → Type 0 = λ zs. Contains zs x in
    ⊎_elim
    (λ (here : p y ≡ true).
    subst P (sym (cond-true (p y) (y ∷ filter p ys) (filter p ys) here))
    (⊎_elim
    (λ (same : y ≡ x). subst (λ (z : X). Contains (z ∷ filter p ys) x) (sym same) (contains_here x (filter p ys)))
    (λ (other : Contains ys x). contains_behind y (filter p ys) x (contains_filter p ys x other met))
    (contains_cases y ys x h)))
    (λ (gone : p y ≡ false).
    subst P (sym (cond-false (p y) (y ∷ filter p ys) (filter p ys) gone))
    (⊎_elim
    (λ (same : y ≡ x). absurd (let unmet : p x ≡ false = subst (λ (z : X). p z ≡ false) same gone in cc))
    (λ (other : Contains ys x). contains_filter p ys x other met)
    (contains_cases y ys x h)))
    (cases_Bool (p y))

-- what is left was there, and met the test
pub contains_filtered : {X : Type 0} (p : X → Bool) (xs : List X) (x : X) → Contains (filter p xs) x → Contains xs x × (p x ≡ true)
contains_filtered {X} p xs x h = (
  All-contains (Contains xs) (filter p xs) x (All-filter p (Contains xs) xs (All-contains_itself xs)) h,
  All-contains (λ (y : X). p y ≡ true) (filter p xs) x (filter_passes p xs) h,
)

pub contains_map : {X Y : Type 0} (f : X → Y) (xs : List X) (x : X) → Contains xs x → Contains (map f xs) (f x)
contains_map f [] x h = absurd (omega (arith, h.1))
contains_map {X} {Y} f (y ∷ ys) x h =
    ⊎_elim
    (λ (same : y ≡ x). subst (λ (z : X). Contains (f z ∷ map f ys) (f x)) (sym same) (contains_here (f x) (map f ys)))
    (λ (other : Contains ys x). contains_behind (f y) (map f ys) (f x) (contains_map f ys x other))
    (contains_cases y ys x h)

-- what is among the images is the image of a place of the list
pub record IsImage {X Y : Type 0} (f : X → Y) (xs : List X) (none : X) (y : Y) : Type 0 where
  pub place : ℕ
  pub below : place < length xs
  pub is : y ≡ f (slice_index_or xs place none)

pub contains_image : {X Y : Type 0} (f : X → Y) (xs : List X) (none : X) (y : Y) → Contains (map f xs) y → IsImage f xs none y
contains_image f xs none y h =
    let below : h.0 < length xs = omega (arith, h.1, length-map xs f) in
    record { place = h.0; below = below; is = sym h.2 ∙ get_or-map f xs h.0 none y below }

-- what is found is of the list, and meets the test
pub found_is : {X : Type 0} (p : X → Bool) (xs : List X) (x : X) → find p xs ≡ Some x → Contains xs x × (p x ≡ true)
found_is p [] x is = absurd cc
found_is {X} p (y ∷ ys) x is =
    ⊎_elim
    (λ (met : p y ≡ true).
    let some : Some y ≡ Some x = sym (cond-true (p y) (Some y) (find p ys) met) ∙ is in
    let same : y ≡ x = cc in
    (subst (λ (z : X). Contains (z ∷ ys) x) (sym same) (contains_here x ys), subst (λ (z : X). p z ≡ true) same met))
    (λ (unmet : p y ≡ false).
    let rest = found_is p ys x (sym (cond-false (p y) (Some y) (find p ys) unmet) ∙ is) in
    (contains_behind y ys x rest.0, rest.1))
    (cases_Bool (p y))

-- ---- lists of objects

new_either : (b : Bool) (k l : Known) (ls rest : List Known) → Contains rest k → Contains (before_or_after b k l ls rest) k
new_either true k l ls rest h = contains_here k (l ∷ ls)
new_either false k l ls rest h = contains_behind l rest k h

pub contains_new : (k : Known) (ls : List Known) → Contains (with_known k ls) k
contains_new k [] = contains_here k []
contains_new k (l ∷ ls) = new_either (nat_lt k.entry.base l.entry.base) k l ls (with_known k ls) (contains_new k ls)

old_either : (b : Bool) (k l x : Known) (ls rest : List Known) → (Contains ls x → Contains rest x) → Contains (l ∷ ls) x → Contains (before_or_after b k l ls rest) x
old_either true k l x ls rest f h = contains_behind k (l ∷ ls) x h
old_either false k l x ls rest f h =
    ⊎_elim
    (λ (same : l ≡ x). subst (λ (z : Known). Contains (z ∷ rest) x) (sym same) (contains_here x rest))
    (λ (other : Contains ls x). contains_behind l rest x (f other))
    (contains_cases l ls x h)

pub contains_old : (k : Known) (ls : List Known) (x : Known) → Contains ls x → Contains (with_known k ls) x
contains_old k [] x h = absurd (omega (arith, h.1))
contains_old k (l ∷ ls) x h =
    old_either (nat_lt k.entry.base l.entry.base) k l x ls (with_known k ls) (contains_old k ls x) h

more_either : (P : Known → Type 0) (b : Bool) (k l : Known) (ls rest : List Known) → P k → All P (l ∷ ls) → All P rest → All P (before_or_after b k l ls rest)
more_either P true k l ls rest here all others = All-cons P k (l ∷ ls) here all
more_either P false k l ls rest here all others = All-cons P l rest (All-head P l ls all) others

pub all_more : (P : Known → Type 0) (k : Known) (ls : List Known) → P k → All P ls → All P (with_known k ls)
all_more P k [] here all = All-cons P k [] here all
all_more P k (l ∷ ls) here all =
    more_either P (nat_lt k.entry.base l.entry.base) k l ls (with_known k ls) here all (all_more P k ls here (All-tail P l ls all))

-- ---- the objects of a call

pub locals_old : (base first : ℕ) (rows : List LocalRow) (ls : List Known) (x : Known) → Contains ls x → Contains (with_locals base first rows ls) x
locals_old base first [] ls x h = h
locals_old base first (r ∷ rs) ls x h =
    locals_old base first rs (with_live (local_entry base first r) ls) x (contains_old (record { entry = local_entry base first r; freed = false }) ls x h)

pub locals_known : (base first : ℕ) (rows : List LocalRow) (ls : List Known) → AreKnown base first rows (with_locals base first rows ls)
locals_known base first [] ls = All-nil (λ (r : LocalRow). Contains ls (record { entry = local_entry base first r; freed = false }))
locals_known base first (r ∷ rs) ls =
    let e : Known = record { entry = local_entry base first r; freed = false } in
    let all : List Known = with_locals base first rs (with_live (local_entry base first r) ls) in
    All-cons (λ (r : LocalRow). Contains all (record { entry = local_entry base first r; freed = false })) r rs
    (locals_old base first rs (with_live (local_entry base first r) ls) e (contains_new e ls))
    (locals_known base first rs (with_live (local_entry base first r) ls))

pub all_locals : (P : Known → Type 0) (base first : ℕ) (rows : List LocalRow) (ls : List Known) → All (λ r. P (record { entry = local_entry base first r; freed = false })) rows → All P ls → All P (with_locals base first rows ls)
all_locals P base first [] ls new all = all
all_locals P base first (r ∷ rs) ls new all =
    let Q : LocalRow → Type 0 = λ r. P (record { entry = local_entry base first r; freed = false }) in
    all_locals P base first rs (with_live (local_entry base first r) ls) (All-tail Q r rs new)
    (all_more P (record { entry = local_entry base first r; freed = false }) ls (All-head Q r rs new) all)

-- ---- numbers

-- a place of the list has the same element whatever stands past its end
at_any : (ks : List Known) (i : ℕ) (d e : Known) → i < length ks → slice_index_or ks i d ≡ slice_index_or ks i e
at_any [] i d e below = absurd (omega arith)
at_any (k ∷ ks) zero d e below = refl
at_any (k ∷ ks) (suc i) d e below = at_any ks i d e (omega arith)

pair_at : (ks : List Known) (i j : ℕ) (d e : Known) → AllPairs HaveTwoNumbers ks → i < j → j < length ks → HaveTwoNumbers (slice_index_or ks i d) (slice_index_or ks j e)
pair_at ks i j d e apart less below =
    subst (λ (y : Known). HaveTwoNumbers (slice_index_or ks i d) y) (at_any ks j d e below) (apart i j d less below)

pub same_number : (ks : List Known) (k l : Known) → AllPairs HaveTwoNumbers ks → Contains ks k → Contains ks l → k.entry.object ≡ l.entry.object → k ≡ l
same_number ks k l apart hk hl same =
    ⊎_elim
    (λ (less : hk.0 < hl.0).
    absurd (subst (λ (x : Known). x.entry.object ≡ l.entry.object → ⊥) hk.2 (subst (λ (y : Known). (slice_index_or ks hk.0 k).entry.object ≡ y.entry.object → ⊥) hl.2 (pair_at ks hk.0 hl.0 k l apart less hl.1)) same))
    (λ (more : hl.0 ≤ hk.0).
    ⊎_elim
    (λ (less : hl.0 < hk.0).
    absurd (subst (λ (x : Known). x.entry.object ≡ k.entry.object → ⊥) hl.2 (subst (λ (y : Known). (slice_index_or ks hl.0 l).entry.object ≡ y.entry.object → ⊥) hk.2 (pair_at ks hl.0 hk.0 l k apart less hk.1)) (sym same)))
    (λ (no : hk.0 ≤ hl.0).
    let at : hk.0 ≡ hl.0 = omega arith in
    sym hk.2 ∙ at_any ks hk.0 k l hk.1 ∙ ap (λ (i : ℕ). slice_index_or ks i l) at ∙ hl.2)
    (cases_lt hl.0 hk.0))
    (cases_lt hk.0 hl.0)
