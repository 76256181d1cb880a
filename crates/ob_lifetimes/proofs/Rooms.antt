-- That there is room for one more object: in the table, and in the heap beside the others.
use Rattle.std.proofs.Common.{◌≡◌, ℕ, suc, ◌+◌, ◌-◌, ◌*◌, ◌/◌, ◌%◌, ◌<◌, ◌≤◌, List, [], ◌∷◌, length, arith, refl, sym, ap, subst, inl, inr, ⊎_elim, Option, Some}
use Rattle.std.specs.Prelude.{MatchOption}
use Rattle.std.specs.List.{All, AllPairs, Contains}
use Rattle.std.proofs.lemmas.Bool.{cases_eq, cases_lt}
use Rattle.std.proofs.lemmas.List.Elements.{All-cons, All-contains, All-head, All-map, All-tail, All-weaker}
use Rattle.ob_words.specs.Words.{block}
use Rattle.ob_model.specs.declared.objects.Sort.{Sort}
use Rattle.ob_model.specs.declared.objects.Sort.TheVariants.{Static, Automatic, Heap}
use Rattle.ob_model.specs.Entries.{Known, entries_of}
use Rattle.ob_model.specs.Heap.{Apart, Block, Fits, IsFirstFit, block_of, blocks_of, heap_place}
use Rattle.ob_model.specs.Laws.{HeapIsFirstFit}
use Rattle.ob_model.specs.Limits.{heap_start}
use Rattle.ob_objects.specs.Objects.{AreApart}
use Rattle.ob_pointers.specs.Pointing.{EndsBefore}
use Rattle.ob_lifetimes.specs.Kept.{IsPlaced, IsPlacedKnown, PlacedBySort, elsewhere, heap_blocks, one_elsewhere}
use Rattle.ob_lifetimes.proofs.Members.{All-from_members, Contains-map}
use Rattle.ob_lifetimes.proofs.Heaps.{allocated, block-among, in_heap}

pub pairs_head : {X : Type 0} (R : X → X → Type 0) (x : X) (xs : List X) → AllPairs R (x ∷ xs) → All (R x) xs
pairs_head R x xs pairs = λ k d below. pairs 0 (suc k) d (omega arith) (omega arith)

pub pairs_tail : {X : Type 0} (R : X → X → Type 0) (x : X) (xs : List X) → AllPairs R (x ∷ xs) → AllPairs R xs
pairs_tail R x xs pairs = λ i j d less below. pairs (suc i) (suc j) d (omega arith) (omega arith)

-- ---- how many objects of the heap there may be

abbrev StartsFrom : ℕ → Known → Type 0
StartsFrom low k = k.entry.sort ≡ Heap → heap_start + low ≤ k.entry.base

rises : (heap low : ℕ) (k l : Known) → IsPlaced heap k.entry → heap_start + low ≤ k.entry.base → IsPlacedKnown heap l → EndsBefore k l → StartsFrom (low + 16) l
rises heap low k l placed start lies ends is =
    let P : Sort → Type 0 = λ s. PlacedBySort s heap l in
    let there : IsPlaced heap l.entry = subst P is lies in
    let a : (k.entry.base - heap_start) % 16 ≡ 0 = placed.multiple in
    let b : (l.entry.base - heap_start) % 16 ≡ 0 = there.multiple in
    let c : heap_start ≤ l.entry.base = there.start in
    let d : heap_start ≤ k.entry.base = placed.start in
    omega arith

all_rise : (heap low : ℕ) (k : Known) (ks : List Known) → IsPlaced heap k.entry → heap_start + low ≤ k.entry.base → All (IsPlacedKnown heap) ks → All (EndsBefore k) ks → All (StartsFrom (low + 16)) ks
all_rise heap low k ks placed start lie end =
    λ i d below. rises heap low k _ placed start (lie i d below) (end i d below)

-- those from a place on
few_by_sort : (s : Sort) (heap low : ℕ) (k : Known) (ks : List Known) → k.entry.sort ≡ s → PlacedBySort s heap k → StartsFrom low k → low ≤ heap →
    (low + 16 * length ks ≤ heap + 16 * elsewhere ks) →
    ((placed : IsPlaced heap k.entry) → heap_start + low ≤ k.entry.base → low + 16 + 16 * length ks ≤ heap + 16 * elsewhere ks) →
    low + 16 * length (k ∷ ks) ≤ heap + 16 * elsewhere (k ∷ ks)
few_by_sort Static heap low k ks is lies start within same more =
    let one : one_elsewhere k.entry.sort ≡ 1 = ap one_elsewhere is in omega (arith, same, one)
few_by_sort Automatic heap low k ks is lies start within same more =
    let one : one_elsewhere k.entry.sort ≡ 1 = ap one_elsewhere is in omega (arith, same, one)
few_by_sort Heap heap low k ks is lies start within same more =
    let none : one_elsewhere k.entry.sort ≡ 0 = ap one_elsewhere is in
    let rest : low + 16 + 16 * length ks ≤ heap + 16 * elsewhere ks = more lies (start is) in
    omega (arith, rest, none)

ends_within : (heap low : ℕ) (k : Known) → IsPlaced heap k.entry → heap_start + low ≤ k.entry.base → low + 16 ≤ heap
ends_within heap low k placed start =
    let within : k.entry.base - heap_start + block k.entry.size ≤ heap = placed.within in omega arith

few : (heap low : ℕ) (ks : List Known) → AllPairs EndsBefore ks → All (IsPlacedKnown heap) ks → All (StartsFrom low) ks → low ≤ heap → low + 16 * length ks ≤ heap + 16 * elsewhere ks
few heap low [] order lie start within = omega arith
few heap low (k ∷ ks) order lie start within =
    let order_rest : AllPairs EndsBefore ks = pairs_tail EndsBefore k ks order in
    let lie_rest : All (IsPlacedKnown heap) ks = All-tail (IsPlacedKnown heap) k ks lie in
    few_by_sort k.entry.sort heap low k ks refl (All-head (IsPlacedKnown heap) k ks lie) (All-head (StartsFrom low) k ks start) within
    (few heap low ks order_rest lie_rest (All-tail (StartsFrom low) k ks start) within)
    (λ placed from. few heap (low + 16) ks order_rest lie_rest
    (all_rise heap low k ks placed from lie_rest (pairs_head EndsBefore k ks order)) (ends_within heap low k placed from))

starts_at_all : (heap : ℕ) (k : Known) → IsPlacedKnown heap k → StartsFrom 0 k
starts_at_all heap k lies is =
    let P : Sort → Type 0 = λ s. PlacedBySort s heap k in
    let placed : IsPlaced heap k.entry = subst P is lies in
    let begins : heap_start ≤ k.entry.base = placed.start in
    omega (arith, begins)

-- with a place at which none begins
abbrev IsNotAt : ℕ → Known → Type 0
IsNotAt place k = k.entry.sort ≡ Heap → k.entry.base ≡ heap_start + place → ⊥

not_at : (place low : ℕ) (k : Known) → place % 16 ≡ 0 → low ≤ place → heap_start ≤ k.entry.base → (k.entry.base - heap_start) % 16 ≡ 0 → heap_start + place ≤ k.entry.base → (k.entry.base ≡ heap_start + place → ⊥) → heap_start + (low + 16) ≤ k.entry.base
not_at place low k multiple before begins at behind other =
    ⊎_elim (λ same. absurd (other same)) (λ apart. omega arith) (cases_eq k.entry.base (heap_start + place))

module _ (heap place : ℕ) (multiple : place % 16 ≡ 0) (within : place + 16 ≤ heap) where
  spare_by_sort : (s : Sort) (low : ℕ) (k : Known) (ks : List Known) → k.entry.sort ≡ s → PlacedBySort s heap k → AllPairs EndsBefore (k ∷ ks) → All (IsPlacedKnown heap) (k ∷ ks) → StartsFrom low k → IsNotAt place k → low ≤ place →
      (low + 16 * (length ks + 1) ≤ heap + 16 * elsewhere ks) →
      (All (StartsFrom (low + 16)) ks → low + 16 ≤ place → low + 16 + 16 * (length ks + 1) ≤ heap + 16 * elsewhere ks) →
      low + 16 * (length (k ∷ ks) + 1) ≤ heap + 16 * elsewhere (k ∷ ks)
  spare_by_sort Static low k ks is lies order lie start apart before same more =
      let one : one_elsewhere k.entry.sort ≡ 1 = ap one_elsewhere is in omega (arith, same, one)
  spare_by_sort Automatic low k ks is lies order lie start apart before same more =
      let one : one_elsewhere k.entry.sort ≡ 1 = ap one_elsewhere is in omega (arith, same, one)
  spare_by_sort Heap low k ks is lies order lie start apart before same more =
      let none : one_elsewhere k.entry.sort ≡ 0 = ap one_elsewhere is in
      let from : heap_start + low ≤ k.entry.base = start is in
      let at : (k.entry.base - heap_start) % 16 ≡ 0 = lies.multiple in
      let begins : heap_start ≤ k.entry.base = lies.start in
      let other : k.entry.base ≡ heap_start + place → ⊥ = apart is in
      let rise : All (StartsFrom (low + 16)) ks =
      all_rise heap low k ks lies from (All-tail (IsPlacedKnown heap) k ks lie) (pairs_head EndsBefore k ks order) in
      ⊎_elim
      (λ less.
      let rest : low + 16 + 16 * (length ks + 1) ≤ heap + 16 * elsewhere ks = more rise (omega (arith, less, at, begins, multiple, from)) in
      omega (arith, rest, none))
      (λ behind.
      let starts : All (StartsFrom (low + 16)) (k ∷ ks) = All-cons (StartsFrom (low + 16)) k ks (λ heap_too. not_at place low k multiple before begins at behind other) rise in
      let all : low + 16 + 16 * length (k ∷ ks) ≤ heap + 16 * elsewhere (k ∷ ks) = few heap (low + 16) (k ∷ ks) order lie starts (omega (arith, within, before)) in
      omega (arith, all))
      (cases_lt k.entry.base (heap_start + place))

  spare : (low : ℕ) (ks : List Known) → AllPairs EndsBefore ks → All (IsPlacedKnown heap) ks → All (StartsFrom low) ks → All (IsNotAt place) ks → low ≤ place → low + 16 * (length ks + 1) ≤ heap + 16 * elsewhere ks
  spare low [] order lie start apart before = omega (arith, within, before)
  spare low (k ∷ ks) order lie start apart before =
      let order_rest : AllPairs EndsBefore ks = pairs_tail EndsBefore k ks order in
      let lie_rest : All (IsPlacedKnown heap) ks = All-tail (IsPlacedKnown heap) k ks lie in
      let apart_rest : All (IsNotAt place) ks = All-tail (IsNotAt place) k ks apart in
      spare_by_sort k.entry.sort low k ks refl (All-head (IsPlacedKnown heap) k ks lie) order lie (All-head (StartsFrom low) k ks start) (All-head (IsNotAt place) k ks apart) before
      (spare low ks order_rest lie_rest (All-tail (StartsFrom low) k ks start) apart_rest before)
      (λ starts later. spare (low + 16) ks order_rest lie_rest starts apart_rest later)

  -- fewer objects than fit
  pub room_in_table : (ks : List Known) → AllPairs EndsBefore ks → All (IsPlacedKnown heap) ks → All (IsNotAt place) ks → length ks < elsewhere ks + heap / 16
  room_in_table ks order lie apart =
      let start : All (StartsFrom 0) ks = All-weaker (IsPlacedKnown heap) (StartsFrom 0) (starts_at_all heap) ks lie in
      let most : 0 + 16 * (length ks + 1) ≤ heap + 16 * elsewhere ks = spare 0 ks order lie start apart (omega arith) in
      omega (arith, most)

pub room_elsewhere : (heap : ℕ) (ks : List Known) → AllPairs EndsBefore ks → All (IsPlacedKnown heap) ks → length ks ≤ elsewhere ks + heap / 16
room_elsewhere heap ks order lie =
    let start : All (StartsFrom 0) ks = All-weaker (IsPlacedKnown heap) (StartsFrom 0) (starts_at_all heap) ks lie in
    let most : 0 + 16 * length ks ≤ heap + 16 * elsewhere ks = few heap 0 ks order lie start (omega arith) in
    omega (arith, most)

-- ---- beside the others

pub first_fit : HeapIsFirstFit → (blocks : List Block) (heap size place : ℕ) → Some place ≡ heap_place blocks heap size → Fits blocks heap size place
first_fit law blocks heap size place is =
    let M : Option ℕ → Type 0 = λ o. MatchOption o ((q : ℕ) → ¬ Fits blocks heap size q) (IsFirstFit blocks heap size) in
    let first : M (Some place) = subst M (sym is) (law blocks heap size) in
    first.fits

-- an object of the heap meets none, where its block meets none
beside : (s : Sort) (heap place n object : ℕ) (k : Known) → PlacedBySort s heap k → (s ≡ Heap → Apart place (block n) (block_of (allocated k.entry))) → AreApart (in_heap (heap_start + place) n object) k.entry
beside Static heap place n object k lies apart = let before : k.entry.base + k.entry.size < heap_start = lies.before in inr (omega (arith, before))
beside Automatic heap place n object k lies apart = let before : k.entry.base + k.entry.size < heap_start = lies.before in inr (omega (arith, before))
beside Heap heap place n object k lies apart =
    let begins : heap_start ≤ k.entry.base = lies.start in
    ⊎_elim
    (λ first. inl (omega (arith, first, begins)))
    (λ behind. inr (omega (arith, behind, begins)))
    (apart refl)

meets : (place n : ℕ) (k : Known) → k.entry.base ≡ heap_start + place → Apart place (block n) (block_of (allocated k.entry)) → ⊥
meets place n k at apart = ⊎_elim (λ first. omega (arith, first, at)) (λ behind. omega (arith, behind, at)) apart

module _ (heap place n : ℕ) (ks : List Known) (lie : All (IsPlacedKnown heap) ks) (apart : All (Apart place (block n)) (blocks_of (heap_blocks ks))) where
  apart_from : (k : Known) → Contains ks k → k.entry.sort ≡ Heap → Apart place (block n) (block_of (allocated k.entry))
  apart_from k among is =
      All-contains (Apart place (block n)) (blocks_of (heap_blocks ks)) (block_of (allocated k.entry)) apart
      (Contains-map block_of (allocated k.entry) (heap_blocks ks) (block-among k ks is among))

  pub none_there : All (IsNotAt place) ks
  none_there =
      All-from_members (IsNotAt place) ks (λ k among is at.
      meets place n k at (apart_from k among is))

  pub all_beside : (object : ℕ) → All (AreApart (in_heap (heap_start + place) n object)) (entries_of ks)
  all_beside object =
      All-map (AreApart (in_heap (heap_start + place) n object)) (λ (k : Known). k.entry) ks
      (All-from_members (λ k. AreApart (in_heap (heap_start + place) n object) k.entry) ks (λ k among.
      beside k.entry.sort heap place n object k (All-contains (IsPlacedKnown heap) ks k lie among) (apart_from k among)))
