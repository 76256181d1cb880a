-- The objects of a run from their making to their death (C99 6.2.4 and 7.20.3), with all that goes when they go: the slots of
-- their pointers out of bounds, their blocks of the heap, and the granules outside of them.
use Rattle.std.specs.Prelude.{◌≡◌, ℕ, ◌+◌, ◌-◌, ◌/◌, ◌<◌, ◌≤◌, ◌⊎◌, ◌%◌, Bool, true, false, List, [], map, Option, Some, None}
use Rattle.std.specs.List.{All, AllPairs, Contains}
use Rattle.ob_model.specs.declared.objects.Entry.{Entry}
use Rattle.ob_model.specs.declared.objects.Sort.{Sort}
use Rattle.ob_model.specs.declared.objects.Sort.TheVariants.{Static, Automatic, Heap}
use Rattle.ob_model.specs.declared.settings.Profile.{Profile}
use Rattle.ob_model.specs.Bounded.{Listed}
use Rattle.ob_model.specs.Cells.{Content}
use Rattle.ob_model.specs.Descriptors.{Slots}
use Rattle.ob_model.specs.Entries.{Known, with_live}
use Rattle.ob_model.specs.Heap.{Allocated, with_object}
use Rattle.ob_model.specs.Limits.{heap_start}
use Rattle.ob_code.specs.Allocation as freeings
use Rattle.ob_code.specs.Allocation.{Freeing, space_after_free}
use Rattle.ob_code.specs.declared.image.LocalRow.{LocalRow}
use Rattle.ob_code.specs.Frames.{local_entry}
use Rattle.ob_code.specs.State.{Space, after_death}
use Rattle.ob_pointers.specs.Pointing.{Pointing, EndsBefore, HaveTwoNumbers}
use Rattle.ob_standing.specs.Laws.{IsGivenOut}
use Rattle.ob_lifetimes.specs.declared.lifetimes.Freed as answers
use Rattle.ob_lifetimes.specs.declared.lifetimes.Freed.TheVariants as answer

-- what becomes of freed objects; how many granules outside of objects and how many pointers out of bounds are kept; the bytes of
-- the heap; how many static objects there may be, and there are; how many automatic ones there are; the objects, the slots, the
-- blocks of the heap, the granules outside, and the next object's number
pub record Living : Type 0 where
  pub profile : Profile
  pub cap : ℕ
  pub away : ℕ
  pub heap : ℕ
  pub most_statics : ℕ
  pub statics : ℕ
  pub locals : ℕ
  pub entries : List Known
  pub slots : Slots
  pub blocks : List Allocated
  pub outside : List (Listed (Content ℕ))
  pub next : ℕ

-- nothing but how much there may be
abbrev pub emptied : Living → Living
emptied l = record l { statics = 0; locals = 0; entries = []; slots = []; blocks = []; outside = []; next = 1 }

-- a space of the definition with these objects
abbrev pub with_living : Living → Space → Space
with_living l s =
    record s { entries = l.entries; slots = l.slots; blocks = l.blocks; outside = l.outside; next = l.next }

-- the same objects and slots, for the meaning of words; `most` is how many objects there may be
abbrev pub pointing_of : Living → Pointing
pointing_of l =
    record { most = l.most_statics + 65536 + (l.heap / 16); away = l.away; heap = l.heap; entries = l.entries; slots = l.slots }

-- what `free` answers
abbrev pub as_freeing : answers.Freed → Freeing
as_freeing answer.NoEffect = freeings.no_effect
as_freeing (answer.Own object) = freeings.own object
as_freeing (answer.Stray object offset) = freeings.stray object offset

-- ---- where objects lie

-- an object ends before some bytes from a base on, or begins behind them
abbrev pub LiesOutside : ℕ → ℕ → Known → Type 0
LiesOutside base end k = (k.entry.base + k.entry.size < base) ⊎ (end ≤ k.entry.base)

-- a block of the heap is an object's: it begins where the object does, and has more bytes
pub record IsBlockOf (heap : ℕ) (a : Allocated) (e : Entry) : Type 0 where
  pub object : a.object ≡ e.object
  pub base : e.base ≡ heap_start + a.place
  pub longer : e.size < a.length
  pub within : a.place + a.length ≤ heap
  pub multiple : a.place % 16 ≡ 0
  pub whole : a.length % 16 ≡ 0

abbrev pub HasBlock : ℕ → List Allocated → Entry → Type 0
HasBlock heap blocks e = (a : Allocated) × Contains blocks a × IsBlockOf heap a e

abbrev pub LiesBySort : Sort → ℕ → List Allocated → Known → Type 0
LiesBySort Static heap blocks k = (k.entry.base + k.entry.size < heap_start) × (k.freed ≡ false)
LiesBySort Automatic heap blocks k = (k.entry.base + k.entry.size < heap_start) × (k.freed ≡ false)
LiesBySort Heap heap blocks k = HasBlock heap blocks k.entry

-- what holds of the objects at any time
pub record IsSound (l : Living) : Type 0 where
  pub in_order : AllPairs EndsBefore l.entries
  pub numbers : AllPairs HaveTwoNumbers l.entries
  pub given_out : All (IsGivenOut l.next) l.entries
  pub places : All (λ k. LiesBySort k.entry.sort l.heap l.blocks k) l.entries

-- ---- calls

-- the objects of a function's rows, in a frame at this base, are known and live
abbrev pub AreKnown : ℕ → ℕ → List LocalRow → List Known → Type 0
AreKnown base first rows entries = All (λ r. Contains entries (record { entry = local_entry base first r; freed = false })) rows

-- an object whose number is among those of a call is one of its rows'
abbrev pub AreOfRows : (ℕ → Bool) → ℕ → ℕ → List LocalRow → List Known → Type 0
AreOfRows dies base first rows entries =
    All (λ k. dies k.entry.object ≡ true → Contains (map (local_entry base first) rows) k.entry) entries

-- an object of this number is known and live
abbrev pub IsLive : ℕ → List Known → Type 0
IsLive object entries = (k : Known) × Contains entries k × (k.entry.object ≡ object) × (k.freed ≡ false)

-- the objects that a test names are gone, so many of them automatic ones; nothing else changes
pub record Dies (dies : ℕ → Bool) (count : ℕ) (old new : Living) : Type 0 where
  pub gone : (s : Space) → with_living new s ≡ after_death dies (with_living old s)
  pub rest : new ≡ record old { locals = old.locals - count; entries = new.entries; slots = new.slots; outside = new.outside }

-- ---- the heap

-- an object of n bytes is made at a place, with no bytes written yet; or there is none
abbrev pub Allocates : ℕ → Living → Option ℕ → Living → Type 0
Allocates n old None new = new ≡ old
Allocates n old (Some place) new =
    new ≡ record old {
      entries = with_live (record { base = heap_start + place; size = n; object = old.next; sort = Heap }) old.entries;
      blocks = with_object old.next place n old.blocks;
      next = old.next + 1;
    }

-- what was freed is gone, or stays known as freed
pub record Frees (old : Living) (answer : answers.Freed) (new : Living) : Type 0 where
  pub after : (s : Space) → with_living new s ≡ space_after_free old.profile (as_freeing answer) (with_living old s)
  pub rest : new ≡ record old { entries = new.entries; slots = new.slots; blocks = new.blocks; outside = new.outside }
