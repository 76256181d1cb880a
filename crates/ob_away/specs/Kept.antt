-- What a table of descriptors keeps beside its slots, so that neither a pair, nor a free slot, nor an
-- object's slots are sought slot by slot.
use Rattle.std.specs.Prelude.{◌≡◌, ℕ, ◌+◌, ◌<◌, ◌≤◌, ◌==◌, ◌&&◌, pos, Bool, true, false, not, nat_eq, List, [], ◌∷◌, length, Option, Some, None, is_none, if◌then◌else◌, count_by, slice_index_or}
use Rattle.std.specs.Global.{Global, Vec}
use Rattle.std.specs.Vec.{vec_capacity}
use Rattle.std.specs.Ordering.{nat_cmp}
use Rattle.std.specs.declared.cmp.Ordering.{Ordering}
use Rattle.std.specs.declared.cmp.Reverse.{Reverse}
use Rattle.std.specs.declared.collections.BinaryHeap.{BinaryHeap}
use Rattle.std.specs.BinaryHeap.{IsHeap, heap_items, heap_len, heap_capacity}
use Rattle.std.specs.declared.hash.FoldHasher.{FoldHasher}
use Rattle.std.specs.declared.hash.BuildHasherDefault.{BuildHasherDefault}
use Rattle.std.specs.HashMap.{HashMap, get, hash_map_len, spare}
use Rattle.ob_model.specs.Descriptors.{Pair, Slots, IsInterned, same_pair, pair_in, pair_count}
use Rattle.ob_away.specs.Slots.{is_of}

-- a hash map to slots
abbrev pub Names : Type 0 → Type 0
Names K = HashMap K ℕ (BuildHasherDefault FoldHasher)

-- how many entries it holds without more memory
abbrev pub capacity : {K : Type 0} → Names K → ℕ
capacity names = hash_map_len names + spare names

-- ---- the slot of a pair

-- a hash map from pairs to slots
abbrev pub Index : Type 0
Index = Names Pair

-- the slot that the index names for a pair
abbrev pub named : Index → Pair → Option ℕ
named index pair = get same_pair index pair

-- the index names the slot of each pair that stands in one; what it names for other pairs is left open
pub record IsIndexed (index : Index) (slots : Slots) : Type 0 where
  pub by_slot : (k : ℕ) (pair : Pair) → pair_in slots k ≡ Some pair → named index pair ≡ Some k

-- the new index names for each other pair what the old one does
abbrev pub NamesOthers : Index → Index → Pair → Type 0
NamesOthers old new pair = (other : Pair) → same_pair pair other ≡ false → named new other ≡ named old other

-- ---- free slots

-- a heap of slots
abbrev pub Free : Type 0
Free = BinaryHeap (Reverse ℕ) Global

-- the least slot is the greatest in the heap
abbrev pub falling : Reverse ℕ → Reverse ℕ → Ordering
falling x y = nat_cmp y.0 x.0

-- whether slot k was ever used and is free
abbrev pub is_free : Slots → ℕ → Bool
is_free slots k = is_none (slice_index_or slots k (Some (0, pos 0)))

-- the heap holds each of the free slots once, and no other
pub record IsListed (free : Free) (slots : Slots) : Type 0 where
  pub ordered : IsHeap falling (heap_items free)
  pub each : (k : ℕ) → count_by (λ r. r.0 == k) (heap_items free) ≡ (if is_free slots k then 1 else 0)
  pub counted : heap_len free + pair_count slots ≡ length slots

-- ---- the slots of an object

-- a hash map from objects to slots
abbrev pub Heads : Type 0
Heads = Names ℕ

-- the first slot of an object's chain
abbrev pub head_of : Heads → ℕ → Option ℕ
head_of heads object = get nat_eq heads object

-- the new heads have for each other object what the old ones do
abbrev pub LeadsOthers : Heads → Heads → ℕ → Type 0
LeadsOthers old new object = (other : ℕ) → nat_eq object other ≡ false → head_of new other ≡ head_of old other

-- whether slot k holds a pair of the object
abbrev pub owns : Slots → ℕ → ℕ → Bool
owns slots object k = is_of object (pair_in slots k)

-- a chain of slots, each naming the next: it begins at `at`, and has each owned slot once and no other.
-- What its last slot names is left open.
abbrev pub IsChain : List ℕ → List (Option ℕ) → Option ℕ → (ℕ → Bool) → Type 0
IsChain [] next at owned = (k : ℕ) → owned k ≡ false
IsChain (s ∷ chain) next at owned = (at ≡ Some s) × (owned s ≡ true) × IsChain chain next (slice_index_or next s None) (λ k. owned k && not (k == s))

abbrev pub Chained : List (Option ℕ) → Option ℕ → (ℕ → Bool) → Type 0
Chained next at owned = (chain : List ℕ) × IsChain chain next at owned

-- the slots of each object are chained
pub record IsLinked (heads : Heads) (next : List (Option ℕ)) (slots : Slots) : Type 0 where
  pub chained : (object : ℕ) → Chained next (head_of heads object) (owns slots object)

-- ---- all of it

-- what a table keeps
pub record IsKept (limit : ℕ) (slots : Vec (Option Pair)) (free : Free) (index : Index) (heads : Heads) (next : List (Option ℕ)) : Type 0 where
  pub within : length slots.items ≤ limit
  pub interned : IsInterned slots.items
  pub indexed : IsIndexed index slots.items
  pub listed : IsListed free slots.items
  pub linked : IsLinked heads next slots.items
  pub next_long : length next ≡ limit
  pub roomy : limit < capacity index
  pub heads_roomy : limit < capacity heads
  pub slots_fit : limit ≤ vec_capacity slots
  pub free_fit : limit ≤ heap_capacity free
