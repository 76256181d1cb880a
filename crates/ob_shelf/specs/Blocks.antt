-- What a shelf keeps of its blocks, and the gaps between them.
use Rattle.std.specs.Prelude.{◌≡◌, ◌≢◌, ◌⊎◌, ℕ, ◌+◌, ◌-◌, ◌*◌, ◌/◌, ◌%◌, ◌<◌, ◌≤◌, ◌==◌, nat_lt, List, length, map, slice_index, slice_index_or, Option, Some, None, if◌then◌else◌}
use Rattle.std.specs.List.{All, AllPairs}
use Rattle.std.specs.Global.{Vec}
use Rattle.std.specs.Vec.{vec_capacity}
use Rattle.ob_model.specs.Heap.{Block}
use Rattle.ob_shelf.specs.declared.blocks.LiveBlock.{LiveBlock}

abbrev pub as_block : LiveBlock → Block
as_block b = record { place = b.place; length = b.length }

abbrev pub as_blocks : List LiveBlock → List Block
as_blocks blocks = map as_block blocks

-- a whole number of granules of 16 bytes, and at least one
abbrev pub IsGranular : LiveBlock → Type 0
IsGranular b = (b.place % 16 ≡ 0) × (b.length % 16 ≡ 0) × (16 ≤ b.length)

-- b ends where c begins, or before
abbrev pub Precedes : LiveBlock → LiveBlock → Type 0
Precedes b c = b.place + b.length ≤ c.place

abbrev pub IsInOrder : List LiveBlock → Type 0
IsInOrder blocks = AllPairs Precedes blocks

-- blocks of a heap of so many bytes: in order, apart, and within it
pub record AreLaid (heap : ℕ) (blocks : List LiveBlock) : Type 0 where
  pub small : heap ≤ 67108864
  pub in_order : IsInOrder blocks
  pub granular : All IsGranular blocks
  pub within : All (λ b. b.place + b.length ≤ heap) blocks

abbrev pub no_block : LiveBlock
no_block = record { place = 0; length = 0 }

-- where gap k begins, at the end of the block before it, and where it ends, at the block after it or the heap's end
abbrev pub gap_start : List LiveBlock → ℕ → ℕ
gap_start blocks k = if k == 0 then 0 else (slice_index_or blocks (k - 1) no_block).place + (slice_index_or blocks (k - 1) no_block).length

abbrev pub gap_end : ℕ → List LiveBlock → ℕ → ℕ
gap_end heap blocks k = if nat_lt k (length blocks) then (slice_index_or blocks k no_block).place else heap

-- gap k is shorter than this
abbrev pub IsShorter : ℕ → List LiveBlock → ℕ → ℕ → Type 0
IsShorter heap blocks size k = gap_end heap blocks k < gap_start blocks k + size

-- the first gap that is this long, or none
abbrev pub IsFirstGap : ℕ → List LiveBlock → ℕ → Option ℕ → Type 0
IsFirstGap heap blocks size None = (k : ℕ) → k ≤ length blocks → IsShorter heap blocks size k
IsFirstGap heap blocks size (Some i) =
    (i ≤ length blocks) × (gap_start blocks i + size ≤ gap_end heap blocks i) × ((k : ℕ) → k < i → IsShorter heap blocks size k)

-- the block at a place stands at this index, or at none
abbrev pub IsIndexOf : List LiveBlock → ℕ → Option ℕ → Type 0
IsIndexOf blocks place None = (k : ℕ) (d : LiveBlock) → k < length blocks → (slice_index_or blocks k d).place ≢ place
IsIndexOf blocks place (Some i) = (i < length blocks) × ((d : LiveBlock) → (slice_index_or blocks i d).place ≡ place)

-- the first `at` blocks are those whose place is at most this one
pub record Splits (blocks : List LiveBlock) (place at : ℕ) : Type 0 where
  pub within : at ≤ length blocks
  pub before : (k : ℕ) (d : LiveBlock) → k < at → (slice_index_or blocks k d).place ≤ place
  pub after : (k : ℕ) (d : LiveBlock) → at ≤ k → k < length blocks → place < (slice_index_or blocks k d).place

-- hint c is a number of gaps, from the first on, that are shorter than c granules
abbrev pub AreHints : ℕ → List LiveBlock → List ℕ → Type 0
AreHints heap blocks hints = (c k : ℕ) → c < length hints → k < slice_index hints c → IsShorter heap blocks (16 * c) k

-- the gaps before `index` are known to be shorter than `size`, too
pub record Raises (old new : List ℕ) (size index : ℕ) : Type 0 where
  pub classes : length new ≡ length old
  pub each : (c k : ℕ) → c < length old → k < slice_index new c → (k < slice_index old c) ⊎ ((16 * c ≡ size) × (k < index))

-- a gap of `merged` bytes stands at `index`, in place of two: what a hint may still say of gap k
abbrev pub IsLowered : ℕ → ℕ → ℕ → ℕ → ℕ → Type 0
IsLowered hint c merged index k = ((k < index) × (k < hint)) ⊎ ((index ≤ k) × (merged < 16 * c) × (k + 1 < hint))

pub record Lowers (old new : List ℕ) (merged index : ℕ) : Type 0 where
  pub classes : length new ≡ length old
  pub each : (c k : ℕ) → c < length old → k < slice_index new c → IsLowered (slice_index old c) c merged index k

-- what a shelf keeps
pub record IsKept (heap : ℕ) (blocks : Vec LiveBlock) (hints : List ℕ) : Type 0 where
  pub laid : AreLaid heap blocks.items
  pub fit : heap / 16 < vec_capacity blocks
  pub hints_hold : AreHints heap blocks.items hints
  pub classes : length hints ≡ 65
