-- The object of a number, once there are others, or fewer.
use Rattle.std.proofs.Common.{◌≡◌, ℕ, ◌<◌, ◌≤◌, ◌==◌, Bool, true, false, not, cond, nat_lt, List, [], ◌∷◌, Option, Some, None, All, arith, ap, sym, subst, ◌∙◌, refl, ⊎_elim}
use Rattle.std.specs.List.{filter, find}
use Rattle.std.proofs.lemmas.Bool.{cases_Bool, cond-false, cond-true, eqb-true, ne_eqb}
use Rattle.std.proofs.lemmas.List.Elements.{All-head, All-tail}
use Rattle.ob_model.specs.declared.objects.Entry.{Entry}
use Rattle.ob_model.specs.Entries.{Known, freed_if, known_of, surviving_known, with_freed, with_known, with_live}
use Rattle.ob_model.specs.Ordered.{before_or_after}
use Rattle.ob_code.specs.declared.image.LocalRow.{LocalRow}
use Rattle.ob_code.specs.Frames.{local_entry, with_locals}

same_some : (k l : Known) → Some k ≡ Some l → k ≡ l
same_some k l e = cc

-- what is found is one of the list
pub found_is : (P : Known → Type 0) (p : Known → Bool) (ks : List Known) (k : Known) → All P ks → find p ks ≡ Some k → P k × (p k ≡ true)
found_is P p [] k all is = absurd (cc)
found_is P p (l ∷ ls) k all is =
    ⊎_elim
    (λ met.
    let same : l ≡ k = same_some l k (sym (cond-true (p l) (Some l) (find p ls) met) ∙ is) in
    (subst P same (All-head P l ls all), ap p (sym same) ∙ met))
    (λ unmet. found_is P p ls k (All-tail P l ls all) (sym (cond-false (p l) (Some l) (find p ls) unmet) ∙ is))
    (cases_Bool (p l))

pub number_is : (ks : List Known) (object : ℕ) (k : Known) → known_of object ks ≡ Some k → k.entry.object ≡ object
number_is ks object k is =
    eqb-true k.entry.object object (found_is (λ (x : Known). Unit {0}) (λ (x : Known). x.entry.object == object) ks k (λ i d below. tt) is).1

-- ---- others

skips_either : (b : Bool) (p : Known → Bool) (n l : Known) (ls rest : List Known) → p n ≡ false → find p rest ≡ find p ls → find p (before_or_after b n l ls rest) ≡ find p (l ∷ ls)
skips_either true p n l ls rest unmet same = cond-false (p n) (Some n) (find p (l ∷ ls)) unmet
skips_either false p n l ls rest unmet same = ap (λ (o : Option Known). cond (p l) (Some l) o) same

skips : (p : Known → Bool) (n : Known) (ks : List Known) → p n ≡ false → find p (with_known n ks) ≡ find p ks
skips p n [] unmet = cond-false (p n) (Some n) None unmet
skips p n (l ∷ ls) unmet = skips_either (nat_lt n.entry.base l.entry.base) p n l ls (with_known n ls) unmet (skips p n ls unmet)

pub known_more : (object : ℕ) (e : Entry) (ks : List Known) → object < e.object → known_of object (with_live e ks) ≡ known_of object ks
known_more object e ks later =
    skips (λ (x : Known). x.entry.object == object) (record { entry = e; freed = false }) ks (ne_eqb e.object object (λ same. omega (arith, same, later)))

pub known_locals : (object base first : ℕ) (ls : List LocalRow) (ks : List Known) → object < first → known_of object (with_locals base first ls ks) ≡ known_of object ks
known_locals object base first [] ks later = refl
known_locals object base first (l ∷ ls) ks later =
    known_locals object base first ls (with_live (local_entry base first l) ks) later
    ∙ known_more object (local_entry base first l) ks (omega (arith, later))

-- ---- fewer

kept_all : (p q : Known → Bool) (ks : List Known) → ((k : Known) → p k ≡ true → q k ≡ true) → find p (filter q ks) ≡ find p ks
kept_all p q [] stays = refl
kept_all p q (l ∷ ls) stays =
    ⊎_elim
    (λ met.
    ap (find p) (cond-true (q l) (l ∷ filter q ls) (filter q ls) (stays l met))
    ∙ cond-true (p l) (Some l) (find p (filter q ls)) met
    ∙ sym (cond-true (p l) (Some l) (find p ls) met))
    (λ unmet.
    let rest : find p (filter q ls) ≡ find p (l ∷ ls) = kept_all p q ls stays ∙ sym (cond-false (p l) (Some l) (find p ls) unmet) in
    ⊎_elim
    (λ kept. ap (find p) (cond-true (q l) (l ∷ filter q ls) (filter q ls) kept) ∙ cond-false (p l) (Some l) (find p (filter q ls)) unmet ∙ rest)
    (λ gone. ap (find p) (cond-false (q l) (l ∷ filter q ls) (filter q ls) gone) ∙ rest)
    (cases_Bool (q l)))
    (cases_Bool (p l))

kept_none : (p q : Known → Bool) (ks : List Known) → ((k : Known) → p k ≡ true → q k ≡ false) → find p (filter q ks) ≡ None
kept_none p q [] leaves = refl
kept_none p q (l ∷ ls) leaves =
    ⊎_elim
    (λ kept.
    ap (find p) (cond-true (q l) (l ∷ filter q ls) (filter q ls) kept)
    ∙ ⊎_elim
    (λ met. absurd (let gone : q l ≡ false = leaves l met in cc))
    (λ unmet. cond-false (p l) (Some l) (find p (filter q ls)) unmet ∙ kept_none p q ls leaves)
    (cases_Bool (p l)))
    (λ gone. ap (find p) (cond-false (q l) (l ∷ filter q ls) (filter q ls) gone) ∙ kept_none p q ls leaves)
    (cases_Bool (q l))

dies_as : (dies : ℕ → Bool) (object : ℕ) (k : Known) → (k.entry.object == object) ≡ true → dies k.entry.object ≡ dies object
dies_as dies object k same = ap dies (eqb-true k.entry.object object same)

pub known_stays : (dies : ℕ → Bool) (object : ℕ) (ks : List Known) → dies object ≡ false → known_of object (surviving_known dies ks) ≡ known_of object ks
known_stays dies object ks lives =
    kept_all (λ (x : Known). x.entry.object == object) (λ (x : Known). not (dies x.entry.object)) ks (λ k same. ap not (dies_as dies object k same ∙ lives))

pub known_leaves : (dies : ℕ → Bool) (object : ℕ) (ks : List Known) → dies object ≡ true → known_of object (surviving_known dies ks) ≡ None
known_leaves dies object ks dead =
    kept_none (λ (x : Known). x.entry.object == object) (λ (x : Known). not (dies x.entry.object)) ks (λ k same. ap not (dies_as dies object k same ∙ dead))

-- ---- marked as freed

abbrev pub SameEntries : Option Known → Option Known → Type 0
SameEntries None None = Unit {0}
SameEntries None (Some l) = ⊥
SameEntries (Some k) None = ⊥
SameEntries (Some k) (Some l) = k.entry ≡ l.entry

entry_of_freed : (b : Bool) (k : Known) → (freed_if b k).entry ≡ k.entry
entry_of_freed true k = refl
entry_of_freed false k = refl

found_either : (b : Bool) (k l : Known) (o p : Option Known) → k.entry ≡ l.entry → SameEntries o p → SameEntries (cond b (Some k) o) (cond b (Some l) p)
found_either true k l o p same rest = same
found_either false k l o p same rest = rest

pub known_freed : (freed object : ℕ) (ks : List Known) → SameEntries (known_of object ks) (known_of object (with_freed freed ks))
known_freed freed object [] = tt
known_freed freed object (l ∷ ls) =
    let marked : Known = freed_if (l.entry.object == freed) l in
    let same : l.entry ≡ marked.entry = sym (entry_of_freed (l.entry.object == freed) l) in
    let tests : (l.entry.object == object) ≡ (marked.entry.object == object) = ap (λ (e : Entry). e.object == object) same in
    let R : Bool → Type 0 = λ b. SameEntries (cond (l.entry.object == object) (Some l) (known_of object ls)) (cond b (Some marked) (known_of object (with_freed freed ls))) in
    subst R tests (found_either (l.entry.object == object) l marked (known_of object ls) (known_of object (with_freed freed ls)) same (known_freed freed object ls))
