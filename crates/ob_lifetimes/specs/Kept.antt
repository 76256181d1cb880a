-- What the program keeps: the tables of objects and slots, the heap's places, the granules outside, and how many objects of each
-- sort there are.
use Rattle.std.specs.Prelude.{◌≡◌, ◌≢◌, ℕ, ◌+◌, ◌-◌, ◌/◌, ◌<◌, ◌≤◌, ◌%◌, false, List, [], ◌∷◌, Option, Some, None}
use Rattle.std.specs.List.{All, Contains}
use Rattle.ob_words.specs.Words.{block}
use Rattle.ob_model.specs.declared.objects.Entry.{Entry}
use Rattle.ob_model.specs.declared.objects.Sort.{Sort}
use Rattle.ob_model.specs.declared.objects.Sort.TheVariants.{Static, Automatic, Heap}
use Rattle.ob_model.specs.declared.settings.Profile.{Profile}
use Rattle.ob_model.specs.Bounded.{Listed}
use Rattle.ob_model.specs.Cells.{Content}
use Rattle.ob_model.specs.Descriptors.{Pair}
use Rattle.ob_model.specs.Entries.{Known}
use Rattle.ob_model.specs.Heap.{Allocated, blocks_of}
use Rattle.ob_model.specs.Limits.{heap_start}
use Rattle.ob_code.specs.declared.image.LocalRow.{LocalRow}
use Rattle.ob_code.specs.Frames.{local_entry}
use Rattle.ob_objects.specs.Objects.{AreApart}
use Rattle.ob_outside.specs.Granules.{Granules}
use Rattle.ob_pointers.specs.Pointing.{Pointing}
use Rattle.ob_shelf.specs.Places.{Places}
use Rattle.ob_standing.specs.Laws.{IsGivenOut}
use Rattle.ob_lifetimes.specs.Living.{Living}

-- ---- the heap's list, which is that of its objects

abbrev pub with_block_of : Sort → Entry → List Allocated → List Allocated
with_block_of Static e blocks = blocks
with_block_of Automatic e blocks = blocks
with_block_of Heap e blocks = record { object = e.object; place = e.base - heap_start; length = block e.size } ∷ blocks

abbrev pub heap_blocks : List Known → List Allocated
heap_blocks [] = []
heap_blocks (k ∷ ks) = with_block_of k.entry.sort k.entry (heap_blocks ks)

-- how many objects lie elsewhere
abbrev pub one_elsewhere : Sort → ℕ
one_elsewhere Static = 1
one_elsewhere Automatic = 1
one_elsewhere Heap = 0

abbrev pub elsewhere : List Known → ℕ
elsewhere [] = 0
elsewhere (k ∷ ks) = one_elsewhere k.entry.sort + elsewhere ks

abbrev pub living_in : Pointing → Places → Granules → Profile → ℕ → ℕ → ℕ → ℕ → Living
living_in pointers shelf outside profile most_statics statics locals next =
    record {
      profile = profile;
      cap = outside.cap;
      away = pointers.away;
      heap = shelf.heap;
      most_statics = most_statics;
      statics = statics;
      locals = locals;
      entries = pointers.entries;
      slots = pointers.slots;
      blocks = heap_blocks pointers.entries;
      outside = outside.listed;
      next = next;
    }

-- ---- what holds of it

-- an object of the heap begins at a multiple of 16 within it, and its block ends there
pub record IsPlaced (heap : ℕ) (e : Entry) : Type 0 where
  pub start : heap_start ≤ e.base
  pub multiple : (e.base - heap_start) % 16 ≡ 0
  pub within : e.base - heap_start + block e.size ≤ heap

-- any other ends before the heap, and isn't freed
pub record IsBelow (k : Known) : Type 0 where
  pub before : k.entry.base + k.entry.size < heap_start
  pub live : k.freed ≡ false

abbrev pub PlacedBySort : Sort → ℕ → Known → Type 0
PlacedBySort Static heap k = IsBelow k
PlacedBySort Automatic heap k = IsBelow k
PlacedBySort Heap heap k = IsPlaced heap k.entry

abbrev pub IsPlacedKnown : ℕ → Known → Type 0
IsPlacedKnown heap k = PlacedBySort k.entry.sort heap k

-- some object that is known has this number
pub record HasNumber (entries : List Known) (object : ℕ) : Type 0 where
  pub k : Known
  pub known : Contains entries k
  pub number : k.entry.object ≡ object

abbrev pub PairHasNumber : List Known → Option Pair → Type 0
PairHasNumber entries None = Unit {0}
PairHasNumber entries (Some pair) = HasNumber entries pair.0

abbrev pub CellHasNumber : List Known → Listed (Content ℕ) → Type 0
CellHasNumber entries l = HasNumber entries l.object

-- the object of a function's row may be made beside another one, in a frame at this base: they have two numbers, and no address
-- is one of both
abbrev pub IsBeside : ℕ → ℕ → LocalRow → Known → Type 0
IsBeside base first row k = AreApart (local_entry base first row) k.entry × (k.entry.object ≢ first + row.ordinal)

pub record IsKept (pointers : Pointing) (shelf : Places) (outside : Granules) (most_statics statics locals next : ℕ) : Type 0 where
  pub one_heap : pointers.heap ≡ shelf.heap
  pub most_heap : shelf.heap ≤ 67108864
  pub most : pointers.most ≡ most_statics + 65536 + (shelf.heap / 16)
  pub fit_statics : most_statics ≤ 262144
  pub few_statics : statics ≤ most_statics
  pub few_locals : locals ≤ 65536
  pub count : elsewhere pointers.entries ≤ statics + locals
  pub first : 1 ≤ next
  pub given_out : All (IsGivenOut next) pointers.entries
  pub places : All (IsPlacedKnown shelf.heap) pointers.entries
  pub blocks : shelf.blocks ≡ blocks_of (heap_blocks pointers.entries)
  pub slots : All (PairHasNumber pointers.entries) pointers.slots
  pub cells : All (CellHasNumber pointers.entries) outside.listed
