-- Where the heap places an allocation (C99 7.20.3 leaves it open): first fit at multiples of 16. A block is the bytes that an
-- allocation takes, more than it asked for. Places count from the heap's first byte.
use Rattle.std.specs.Prelude.{◌≡◌, ℕ, zero, suc, ◌+◌, ◌/◌, ◌%◌, ◌≤◌, ◌⊎◌, Bool, true, false, ◌==◌, ◌&&◌, ◌||◌, not, nat_le, nat_lt, List, [], ◌∷◌, map, Option, Some, None}
use Rattle.std.specs.List.{All, list_all, filter}
use Rattle.ob_words.specs.Words.{block}
use Rattle.ob_model.specs.Ordered.{before_or_after}

pub record Block : Type 0 where
  pub place : ℕ
  pub length : ℕ

-- the two blocks have no byte in common
abbrev pub Apart : ℕ → ℕ → Block → Type 0
Apart place length b = (place + length ≤ b.place) ⊎ (b.place + b.length ≤ place)

-- a block of this length may lie at this place of a heap of so many bytes
pub record Fits (blocks : List Block) (heap length place : ℕ) : Type 0 where
  pub aligned : place % 16 ≡ 0
  pub within : place + length ≤ heap
  pub apart : All (Apart place length) blocks

pub record IsFirstFit (blocks : List Block) (heap length place : ℕ) : Type 0 where
  pub fits : Fits blocks heap length place
  pub least : (q : ℕ) → Fits blocks heap length q → place ≤ q

-- the same as tests
abbrev pub is_apart : ℕ → ℕ → Block → Bool
is_apart place length b = nat_le (place + length) b.place || nat_le (b.place + b.length) place

abbrev pub fits : List Block → ℕ → ℕ → ℕ → Bool
fits blocks heap length place = nat_le (place + length) heap && list_all (is_apart place length) blocks

-- the first of k multiples of 16, from place on, that meets the test
abbrev pub tried : Bool → ℕ → (ℕ → Option ℕ) → Option ℕ
tried true place others = Some place
tried false place others = others (place + 16)

abbrev pub first_from : (ℕ → Bool) → ℕ → ℕ → Option ℕ
first_from test zero place = None
first_from test (suc k) place = tried (test place) place (first_from test k)

-- the place for a block of this length, or none where no place fits
abbrev pub heap_place : List Block → ℕ → ℕ → Option ℕ
heap_place blocks heap length = first_from (fits blocks heap length) (heap / 16 + 1) 0

-- the blocks in order of place, with one more, and without the one at a place
abbrev pub with_block : Block → List Block → List Block
with_block b [] = b ∷ []
with_block b (c ∷ cs) = before_or_after (nat_lt b.place c.place) b c cs (with_block b cs)

abbrev pub without_place : ℕ → List Block → List Block
without_place place blocks = filter (λ b. not (b.place == place)) blocks

-- ---- the heap's list

-- the block of a live or freed object of the heap, with the object's number
pub record Allocated : Type 0 where
  pub object : ℕ
  pub place : ℕ
  pub length : ℕ

abbrev pub block_of : Allocated → Block
block_of a = record { place = a.place; length = a.length }

abbrev pub blocks_of : List Allocated → List Block
blocks_of all = map block_of all

-- the list in order of places, with one more, and without the objects that die; a freed object that stays known keeps its block
abbrev pub with_allocated : Allocated → List Allocated → List Allocated
with_allocated a [] = a ∷ []
with_allocated a (b ∷ bs) = before_or_after (nat_lt a.place b.place) a b bs (with_allocated a bs)

abbrev pub surviving_blocks : (ℕ → Bool) → List Allocated → List Allocated
surviving_blocks dies all = filter (λ a. not (dies a.object)) all

-- the place of a new object of n bytes in a heap of so many bytes, or none, and the list once the object lies there
abbrev pub place_for : List Allocated → ℕ → ℕ → Option ℕ
place_for all heap n = heap_place (blocks_of all) heap (block n)

abbrev pub with_object : ℕ → ℕ → ℕ → List Allocated → List Allocated
with_object object place n all = with_allocated (record { object = object; place = place; length = block n }) all
