-- Objects that are known, once there is one more, or some are gone, or one is freed: their members, and how many lie elsewhere than
-- in the heap.
use Rattle.std.proofs.Common.{◌≡◌, ℕ, ◌+◌, ◌≤◌, ◌==◌, Bool, true, false, not, cond, nat_lt, get_or, Option, Some, None, List, [], ◌∷◌, arith, refl, sym, ap, ◌∙◌, subst, ⊎_elim}
use Rattle.std.specs.List.{All, AllPairs, Contains}
use Rattle.std.proofs.lemmas.Bool.{cases_order, cond_both, not_from_false, not-true}
use Rattle.std.proofs.lemmas.List.{get_or_default}
use Rattle.std.proofs.lemmas.List.Elements.{All-cons, All-head, All-map, All-nil, All-tail, All-weaker}
use Rattle.ob_model.specs.declared.objects.Entry.{Entry}
use Rattle.ob_model.specs.Bounded.{Listed, surviving_cells}
use Rattle.ob_model.specs.Cells.{Content}
use Rattle.ob_model.specs.Descriptors.{Pair, Slots, is_dying, surviving_pairs}
use Rattle.ob_model.specs.Entries.{Known, freed_if, surviving_known, with_freed, with_known}
use Rattle.ob_model.specs.Ordered.{before_or_after}
use Rattle.ob_lifetimes.specs.Kept.{CellHasNumber, HasNumber, PairHasNumber, elsewhere, one_elsewhere}
use Rattle.ob_lifetimes.proofs.Members.{Contains-filter, Contains-map, Contains-nil, Contains_cases, here, there}

-- ---- one of two

-- two members between which the order of a list doesn't hold are one
pub one_of : {X : Type 0} (R : X → X → Type 0) (xs : List X) (x y : X) → AllPairs R xs → Contains xs x → Contains xs y → (R x y → ⊥) → (R y x → ⊥) → x ≡ y
one_of {X} R xs x y pairs first second less more =
    ⊎_elim
    (λ same.
    let there_y : get_or xs first.0 y ≡ y = ap (λ i. get_or xs i y) same ∙ second.2 in
    sym first.2 ∙ get_or_default xs first.0 x y first.1 ∙ there_y)
    (λ apart. ⊎_elim
    (λ below.
    let met : R (get_or xs first.0 x) (get_or xs second.0 x) = pairs first.0 second.0 x below second.1 in
    absurd (less (subst (λ (z : X). R x z) (get_or_default xs second.0 x y second.1 ∙ second.2) (subst (λ (z : X). R z (get_or xs second.0 x)) first.2 met))))
    (λ above.
    let met : R (get_or xs second.0 y) (get_or xs first.0 y) = pairs second.0 first.0 y above first.1 in
    absurd (more (subst (λ (z : X). R y z) (get_or_default xs first.0 y x first.1 ∙ first.2) (subst (λ (z : X). R z (get_or xs first.0 y)) second.2 met))))
    apart)
    (cases_order first.0 second.0)

-- ---- one more

all_either : (P : Known → Type 0) (b : Bool) (n l : Known) (ls rest : List Known) → P n → All P (l ∷ ls) → All P rest → All P (before_or_after b n l ls rest)
all_either P true n l ls rest new old later = All-cons P n (l ∷ ls) new old
all_either P false n l ls rest new old later = All-cons P l rest (All-head P l ls old) later

pub All-with_known : (P : Known → Type 0) (n : Known) (ks : List Known) → P n → All P ks → All P (with_known n ks)
All-with_known P n [] new old = All-cons P n [] new (All-nil P)
All-with_known P n (l ∷ ls) new old =
    all_either P (nat_lt n.entry.base l.entry.base) n l ls (with_known n ls) new old (All-with_known P n ls new (All-tail P l ls old))

old_either : (b : Bool) (n l k : Known) (ls rest : List Known) → Contains (l ∷ ls) k → (Contains ls k → Contains rest k) → Contains (before_or_after b n l ls rest) k
old_either true n l k ls rest old later = there n k (l ∷ ls) old
old_either false n l k ls rest old later =
    ⊎_elim (λ is. subst (λ (z : Known). Contains (z ∷ rest) k) (sym is) (here k rest)) (λ behind. there l k rest (later behind)) (Contains_cases l k ls old)

pub Contains-with_known : (n k : Known) (ks : List Known) → Contains ks k → Contains (with_known n ks) k
Contains-with_known n k [] old = Contains-nil k old
Contains-with_known n k (l ∷ ls) old =
    old_either (nat_lt n.entry.base l.entry.base) n l k ls (with_known n ls) old (Contains-with_known n k ls)

elsewhere_either : (b : Bool) (n l : Known) (ls rest : List Known) → elsewhere rest ≡ one_elsewhere n.entry.sort + elsewhere ls → elsewhere (before_or_after b n l ls rest) ≡ one_elsewhere n.entry.sort + elsewhere (l ∷ ls)
elsewhere_either true n l ls rest later = refl
elsewhere_either false n l ls rest later = omega (arith, later)

pub elsewhere-with_known : (n : Known) (ks : List Known) → elsewhere (with_known n ks) ≡ one_elsewhere n.entry.sort + elsewhere ks
elsewhere-with_known n [] = refl
elsewhere-with_known n (l ∷ ls) =
    elsewhere_either (nat_lt n.entry.base l.entry.base) n l ls (with_known n ls) (elsewhere-with_known n ls)

-- ---- some gone

pub elsewhere-survives : (dies : ℕ → Bool) (ks : List Known) → elsewhere (surviving_known dies ks) ≤ elsewhere ks
elsewhere-survives dies [] = omega arith
elsewhere-survives dies (k ∷ ks) =
    let rest : elsewhere (surviving_known dies ks) ≤ elsewhere ks = elsewhere-survives dies ks in
    cond_both (not (dies k.entry.object)) (k ∷ surviving_known dies ks) (surviving_known dies ks) (λ l. elsewhere l ≤ elsewhere (k ∷ ks)) (λ _. omega arith) (λ _. omega arith)

pub elsewhere-leaves : (dies : ℕ → Bool) (k : Known) (ks : List Known) → Contains ks k → dies k.entry.object ≡ true → one_elsewhere k.entry.sort ≡ 1 → elsewhere (surviving_known dies ks) + 1 ≤ elsewhere ks
elsewhere-leaves dies k [] among dead one = Contains-nil k among
elsewhere-leaves dies k (l ∷ ls) among dead one =
    ⊎_elim
    (λ is.
    let rest : elsewhere (surviving_known dies ls) ≤ elsewhere ls = elsewhere-survives dies ls in
    let sort : one_elsewhere l.entry.sort ≡ 1 = ap (λ (z : Known). one_elsewhere z.entry.sort) is ∙ one in
    cond_both (not (dies l.entry.object)) (l ∷ surviving_known dies ls) (surviving_known dies ls) (λ z. elsewhere z + 1 ≤ elsewhere (l ∷ ls))
    (λ stays. absurd (let gone : dies l.entry.object ≡ true = ap (λ (z : Known). dies z.entry.object) is ∙ dead in let lives : dies l.entry.object ≡ false = not-true (dies l.entry.object) stays in cc))
    (λ _. omega arith))
    (λ behind.
    let rest : elsewhere (surviving_known dies ls) + 1 ≤ elsewhere ls = elsewhere-leaves dies k ls behind dead one in
    cond_both (not (dies l.entry.object)) (l ∷ surviving_known dies ls) (surviving_known dies ls) (λ z. elsewhere z + 1 ≤ elsewhere (l ∷ ls)) (λ _. omega arith) (λ _. omega arith))
    (Contains_cases l k ls among)

-- ---- one freed

pub entry_of_freed : (b : Bool) (k : Known) → (freed_if b k).entry ≡ k.entry
entry_of_freed true k = refl
entry_of_freed false k = refl

pub elsewhere-freed : (object : ℕ) (ks : List Known) → elsewhere (with_freed object ks) ≡ elsewhere ks
elsewhere-freed object [] = refl
elsewhere-freed object (k ∷ ks) =
    let same : one_elsewhere (freed_if (k.entry.object == object) k).entry.sort ≡ one_elsewhere k.entry.sort = ap (λ (e : Entry). one_elsewhere e.sort) (entry_of_freed (k.entry.object == object) k) in
    let rest : elsewhere (with_freed object ks) ≡ elsewhere ks = elsewhere-freed object ks in
    omega (arith, same, rest)

-- ---- numbers

pub number-more : (n : Known) (ks : List Known) (object : ℕ) → HasNumber ks object → HasNumber (with_known n ks) object
number-more n ks object has = record { k = has.k; known = Contains-with_known n has.k ks has.known; number = has.number }

pub number-survives : (dies : ℕ → Bool) (ks : List Known) (object : ℕ) → dies object ≡ false → HasNumber ks object → HasNumber (surviving_known dies ks) object
number-survives dies ks object lives has =
    record {
      k = has.k;
      known = Contains-filter (λ (k : Known). not (dies k.entry.object)) has.k ks (not_from_false (dies has.k.entry.object) (ap dies has.number ∙ lives)) has.known;
      number = has.number;
    }

pub number-freed : (freed : ℕ) (ks : List Known) (object : ℕ) → HasNumber ks object → HasNumber (with_freed freed ks) object
number-freed freed ks object has =
    record {
      k = freed_if (has.k.entry.object == freed) has.k;
      known = Contains-map (λ (k : Known). freed_if (k.entry.object == freed) k) has.k ks has.known;
      number = ap (λ (e : Entry). e.object) (entry_of_freed (has.k.entry.object == freed) has.k) ∙ has.number;
    }

-- those of slots and cells, where the numbers that are known stay so
pair_kept : (ks ls : List Known) → ((object : ℕ) → HasNumber ks object → HasNumber ls object) → (o : Option Pair) → PairHasNumber ks o → PairHasNumber ls o
pair_kept ks ls kept None has = tt
pair_kept ks ls kept (Some pair) has = kept pair.0 has

pub pairs-kept : (ks ls : List Known) (slots : Slots) → ((object : ℕ) → HasNumber ks object → HasNumber ls object) → All (PairHasNumber ks) slots → All (PairHasNumber ls) slots
pairs-kept ks ls slots kept each = All-weaker (PairHasNumber ks) (PairHasNumber ls) (pair_kept ks ls kept) slots each

pub cells-kept : (ks ls : List Known) (cells : List (Listed (Content ℕ))) → ((object : ℕ) → HasNumber ks object → HasNumber ls object) → All (CellHasNumber ks) cells → All (CellHasNumber ls) cells
cells-kept ks ls cells kept each = All-weaker (CellHasNumber ks) (CellHasNumber ls) (λ l has. kept l.object has) cells each

-- those that die leave with their objects
pair_survives : (dies : ℕ → Bool) (ks : List Known) (o : Option Pair) → PairHasNumber ks o → PairHasNumber (surviving_known dies ks) (cond (is_dying dies o) None o)
pair_survives dies ks None has = tt
pair_survives dies ks (Some pair) has =
    cond_both (dies pair.0) None (Some pair) (PairHasNumber (surviving_known dies ks)) (λ dead. tt) (λ lives. number-survives dies ks pair.0 lives has)

pub pairs-survive : (dies : ℕ → Bool) (ks : List Known) (slots : Slots) → All (PairHasNumber ks) slots → All (PairHasNumber (surviving_known dies ks)) (surviving_pairs dies slots)
pairs-survive dies ks slots each =
    let stays : Option Pair → Option Pair = λ o. cond (is_dying dies o) None o in
    All-map (PairHasNumber (surviving_known dies ks)) stays slots
    (All-weaker (PairHasNumber ks) (λ o. PairHasNumber (surviving_known dies ks) (stays o)) (pair_survives dies ks) slots each)

pub cells-survive : (dies : ℕ → Bool) (ks : List Known) (cells : List (Listed (Content ℕ))) → All (CellHasNumber ks) cells → All (CellHasNumber (surviving_known dies ks)) (surviving_cells dies cells)
cells-survive dies ks [] each = All-nil (CellHasNumber (surviving_known dies ks))
cells-survive dies ks (l ∷ ls) each =
    let P : Listed (Content ℕ) → Type 0 = CellHasNumber (surviving_known dies ks) in
    let rest : All P (surviving_cells dies ls) = cells-survive dies ks ls (All-tail (CellHasNumber ks) l ls each) in
    cond_both (not (dies l.object)) (l ∷ surviving_cells dies ls) (surviving_cells dies ls) (All P)
    (λ stays. All-cons P l (surviving_cells dies ls) (number-survives dies ks l.object (not-true (dies l.object) stays) (All-head (CellHasNumber ks) l ls each)) rest)
    (λ leaves. rest)
