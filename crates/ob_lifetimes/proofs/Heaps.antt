-- The heap's list, once an object is made, dies or is freed.
use Rattle.std.proofs.Common.{◌≡◌, ℕ, ◌+◌, ◌-◌, ◌<◌, ◌≤◌, ◌==◌, Bool, true, false, not, nat_lt, List, [], ◌∷◌, arith, refl, sym, ap, ◌∙◌, subst, ⊎_elim}
use Rattle.std.specs.List.{All, Contains}
use Rattle.std.proofs.lemmas.Bool.{cases_Bool, cases_lt, cond-false, cond-true, le-ltb, lt-ltb}
use Rattle.std.proofs.lemmas.List.Elements.{All-cons, All-head, All-nil, All-tail}
use Rattle.ob_words.specs.Words.{block}
use Rattle.ob_model.specs.declared.objects.Entry.{Entry}
use Rattle.ob_model.specs.declared.objects.Sort.{Sort}
use Rattle.ob_model.specs.declared.objects.Sort.TheVariants.{Static, Automatic, Heap}
use Rattle.ob_model.specs.Entries.{Known, surviving_known, with_freed, with_known}
use Rattle.ob_model.specs.Heap.{Allocated, surviving_blocks, with_allocated}
use Rattle.ob_model.specs.Limits.{heap_start}
use Rattle.ob_model.specs.Ordered.{before_or_after}
use Rattle.ob_lifetimes.specs.Kept.{IsPlacedKnown, PlacedBySort, heap_blocks, one_elsewhere, with_block_of}
use Rattle.ob_lifetimes.proofs.Members.{Contains-nil, Contains_cases, here, there}
use Rattle.ob_lifetimes.proofs.Tables.{entry_of_freed}

-- the block of an object of the heap
abbrev pub allocated : Entry → Allocated
allocated e = record { object = e.object; place = e.base - heap_start; length = block e.size }

-- ---- death

stays_by_sort : (s : Sort) (e : Entry) (dies : ℕ → Bool) (bs : List Allocated) → not (dies e.object) ≡ true → surviving_blocks dies (with_block_of s e bs) ≡ with_block_of s e (surviving_blocks dies bs)
stays_by_sort Static e dies bs stays = refl
stays_by_sort Automatic e dies bs stays = refl
stays_by_sort Heap e dies bs stays = cond-true (not (dies e.object)) (allocated e ∷ surviving_blocks dies bs) (surviving_blocks dies bs) stays

leaves_by_sort : (s : Sort) (e : Entry) (dies : ℕ → Bool) (bs : List Allocated) → not (dies e.object) ≡ false → surviving_blocks dies (with_block_of s e bs) ≡ surviving_blocks dies bs
leaves_by_sort Static e dies bs leaves = refl
leaves_by_sort Automatic e dies bs leaves = refl
leaves_by_sort Heap e dies bs leaves = cond-false (not (dies e.object)) (allocated e ∷ surviving_blocks dies bs) (surviving_blocks dies bs) leaves

pub blocks-survive : (dies : ℕ → Bool) (ks : List Known) → heap_blocks (surviving_known dies ks) ≡ surviving_blocks dies (heap_blocks ks)
blocks-survive dies [] = refl
blocks-survive dies (k ∷ ks) =
    let rest : heap_blocks (surviving_known dies ks) ≡ surviving_blocks dies (heap_blocks ks) = blocks-survive dies ks in
    ⊎_elim
    (λ stays.
    ap heap_blocks (cond-true (not (dies k.entry.object)) (k ∷ surviving_known dies ks) (surviving_known dies ks) stays)
    ∙ ap (with_block_of k.entry.sort k.entry) rest
    ∙ sym (stays_by_sort k.entry.sort k.entry dies (heap_blocks ks) stays))
    (λ leaves.
    ap heap_blocks (cond-false (not (dies k.entry.object)) (k ∷ surviving_known dies ks) (surviving_known dies ks) leaves)
    ∙ rest
    ∙ sym (leaves_by_sort k.entry.sort k.entry dies (heap_blocks ks) leaves))
    (cases_Bool (not (dies k.entry.object)))

-- where no object of the heap dies, its list stays
elsewhere_is : (s : Sort) (e : Entry) (bs : List Allocated) → one_elsewhere s ≡ 1 → with_block_of s e bs ≡ bs
elsewhere_is Static e bs one = refl
elsewhere_is Automatic e bs one = refl
elsewhere_is Heap e bs one = absurd (omega arith)

pub blocks-stay : (dies : ℕ → Bool) (ks : List Known) → All (λ k. dies k.entry.object ≡ true → one_elsewhere k.entry.sort ≡ 1) ks → heap_blocks (surviving_known dies ks) ≡ heap_blocks ks
blocks-stay dies [] each = refl
blocks-stay dies (k ∷ ks) each =
    let P : Known → Type 0 = λ l. dies l.entry.object ≡ true → one_elsewhere l.entry.sort ≡ 1 in
    let rest : heap_blocks (surviving_known dies ks) ≡ heap_blocks ks = blocks-stay dies ks (All-tail P k ks each) in
    ⊎_elim
    (λ dead.
    ap heap_blocks (cond-false (not (dies k.entry.object)) (k ∷ surviving_known dies ks) (surviving_known dies ks) (ap not dead))
    ∙ rest
    ∙ sym (elsewhere_is k.entry.sort k.entry (heap_blocks ks) (All-head P k ks each dead)))
    (λ lives.
    ap heap_blocks (cond-true (not (dies k.entry.object)) (k ∷ surviving_known dies ks) (surviving_known dies ks) (ap not lives))
    ∙ ap (with_block_of k.entry.sort k.entry) rest)
    (cases_Bool (dies k.entry.object))

-- ---- freeing

pub blocks-freed : (object : ℕ) (ks : List Known) → heap_blocks (with_freed object ks) ≡ heap_blocks ks
blocks-freed object [] = refl
blocks-freed object (k ∷ ks) =
    ap (λ (e : Entry). with_block_of e.sort e (heap_blocks (with_freed object ks))) (entry_of_freed (k.entry.object == object) k)
    ∙ ap (with_block_of k.entry.sort k.entry) (blocks-freed object ks)

-- ---- a new object

elsewhere_either : (b : Bool) (n l : Known) (ls rest : List Known) → one_elsewhere n.entry.sort ≡ 1 → heap_blocks rest ≡ heap_blocks ls → heap_blocks (before_or_after b n l ls rest) ≡ heap_blocks (l ∷ ls)
elsewhere_either true n l ls rest one later = elsewhere_is n.entry.sort n.entry (heap_blocks (l ∷ ls)) one
elsewhere_either false n l ls rest one later = ap (with_block_of l.entry.sort l.entry) later

pub blocks-elsewhere : (n : Known) (ks : List Known) → one_elsewhere n.entry.sort ≡ 1 → heap_blocks (with_known n ks) ≡ heap_blocks ks
blocks-elsewhere n [] one = elsewhere_is n.entry.sort n.entry [] one
blocks-elsewhere n (l ∷ ls) one =
    elsewhere_either (nat_lt n.entry.base l.entry.base) n l ls (with_known n ls) one (blocks-elsewhere n ls one)

same_order : (a b : ℕ) → heap_start ≤ a → heap_start ≤ b → nat_lt a b ≡ nat_lt (a - heap_start) (b - heap_start)
same_order a b from to =
    ⊎_elim
    (λ less. lt-ltb a b less ∙ sym (lt-ltb (a - heap_start) (b - heap_start) (omega arith)))
    (λ more. le-ltb a b more ∙ sym (le-ltb (a - heap_start) (b - heap_start) (omega arith)))
    (cases_lt a b)

abbrev pub in_heap : ℕ → ℕ → ℕ → Entry
in_heap base size object = record { base = base; size = size; object = object; sort = Heap }

blocks_before_or_after : (b : Bool) (n l : Known) (ls rest : List Known) → n.entry.sort ≡ Heap → l.entry.sort ≡ Heap → heap_blocks (before_or_after b n l ls rest) ≡ before_or_after b (allocated n.entry) (allocated l.entry) (heap_blocks ls) (heap_blocks rest)
blocks_before_or_after true n l ls rest new old =
    ap (λ s. with_block_of s n.entry (heap_blocks (l ∷ ls))) new ∙ ap (λ s. allocated n.entry ∷ with_block_of s l.entry (heap_blocks ls)) old
blocks_before_or_after false n l ls rest new old = ap (λ s. with_block_of s l.entry (heap_blocks rest)) old

module _ (heap base size object : ℕ) (from : heap_start ≤ base) where
  abbrev pub n : Known
  n = record { entry = in_heap base size object; freed = false }

  below_first : (l : Known) (ls : List Known) → l.entry.base + l.entry.size < heap_start → one_elsewhere l.entry.sort ≡ 1 → heap_blocks (with_known n ls) ≡ with_allocated (allocated n.entry) (heap_blocks ls) → heap_blocks (with_known n (l ∷ ls)) ≡ with_allocated (allocated n.entry) (heap_blocks (l ∷ ls))
  below_first l ls before one later =
      ap (λ b. heap_blocks (before_or_after b n l ls (with_known n ls))) (le-ltb base l.entry.base (omega arith))
      ∙ elsewhere_is l.entry.sort l.entry (heap_blocks (with_known n ls)) one
      ∙ later
      ∙ sym (ap (with_allocated (allocated n.entry)) (elsewhere_is l.entry.sort l.entry (heap_blocks ls) one))

  heap_first : (l : Known) (ls : List Known) → heap_start ≤ l.entry.base → l.entry.sort ≡ Heap → heap_blocks (with_known n ls) ≡ with_allocated (allocated n.entry) (heap_blocks ls) → heap_blocks (with_known n (l ∷ ls)) ≡ with_allocated (allocated n.entry) (heap_blocks (l ∷ ls))
  heap_first l ls start is later =
      blocks_before_or_after (nat_lt base l.entry.base) n l ls (with_known n ls) refl is
      ∙ ap (before_or_after (nat_lt base l.entry.base) (allocated n.entry) (allocated l.entry) (heap_blocks ls)) later
      ∙ ap (λ b. before_or_after b (allocated n.entry) (allocated l.entry) (heap_blocks ls) (with_allocated (allocated n.entry) (heap_blocks ls))) (same_order base l.entry.base from start)
      ∙ sym (ap (λ s. with_allocated (allocated n.entry) (with_block_of s l.entry (heap_blocks ls))) is)

  by_sort : (s : Sort) (l : Known) (ls : List Known) → l.entry.sort ≡ s → PlacedBySort s heap l → heap_blocks (with_known n ls) ≡ with_allocated (allocated n.entry) (heap_blocks ls) → heap_blocks (with_known n (l ∷ ls)) ≡ with_allocated (allocated n.entry) (heap_blocks (l ∷ ls))
  by_sort Static l ls is placed later = below_first l ls placed.before (ap one_elsewhere is) later
  by_sort Automatic l ls is placed later = below_first l ls placed.before (ap one_elsewhere is) later
  by_sort Heap l ls is placed later = heap_first l ls placed.start is later

  pub blocks-allocated : (ks : List Known) → All (IsPlacedKnown heap) ks → heap_blocks (with_known n ks) ≡ with_allocated (allocated n.entry) (heap_blocks ks)
  blocks-allocated [] each = refl
  blocks-allocated (l ∷ ls) each =
      by_sort l.entry.sort l ls refl (All-head (IsPlacedKnown heap) l ls each) (blocks-allocated ls (All-tail (IsPlacedKnown heap) l ls each))

-- ---- members

behind : (s : Sort) (e : Entry) (a : Allocated) (bs : List Allocated) → Contains bs a → Contains (with_block_of s e bs) a
behind Static e a bs among = among
behind Automatic e a bs among = among
behind Heap e a bs among = there (allocated e) a bs among

pub block-among : (k : Known) (ks : List Known) → k.entry.sort ≡ Heap → Contains ks k → Contains (heap_blocks ks) (allocated k.entry)
block-among k [] is among = Contains-nil k among
block-among k (l ∷ ls) is among =
    ⊎_elim
    (λ same.
    let R : Sort → Entry → Type 0 = λ s e. Contains (with_block_of s e (heap_blocks ls)) (allocated k.entry) in
    let first : R Heap k.entry = here (allocated k.entry) (heap_blocks ls) in
    subst (λ (z : Known). R z.entry.sort z.entry) (sym same) (subst (λ s. R s k.entry) (sym is) first))
    (λ later. behind l.entry.sort l.entry (allocated k.entry) (heap_blocks ls) (block-among k ls is later))
    (Contains_cases l k ls among)

abbrev ForBlock : (Allocated → Type 0) → Known → Type 0
ForBlock P k = k.entry.sort ≡ Heap → P (allocated k.entry)

all_by_sort : (P : Allocated → Type 0) (s : Sort) (e : Entry) (bs : List Allocated) → (s ≡ Heap → P (allocated e)) → All P bs → All P (with_block_of s e bs)
all_by_sort P Static e bs one rest = rest
all_by_sort P Automatic e bs one rest = rest
all_by_sort P Heap e bs one rest = All-cons P (allocated e) bs (one refl) rest

pub All-blocks : (P : Allocated → Type 0) (ks : List Known) → All (ForBlock P) ks → All P (heap_blocks ks)
All-blocks P [] each = All-nil P
All-blocks P (k ∷ ks) each =
    all_by_sort P k.entry.sort k.entry (heap_blocks ks) (All-head (ForBlock P) k ks each) (All-blocks P ks (All-tail (ForBlock P) k ks each))
