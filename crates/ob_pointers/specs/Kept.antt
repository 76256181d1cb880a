-- What the program keeps: the table of objects, a mark for each place of the heap where a freed object begins, and the table of
-- slots, whose pairs name an object by its base.
use Rattle.std.specs.Prelude.{◌≡◌, ◌≢◌, ℕ, ◌+◌, ◌-◌, ◌*◌, ◌/◌, ◌<◌, ◌^◌, Bool, true, false, nat_lt, ℤ, pos, List, length, map, Option, Some, None, slice_index_or, slice_set, if◌then◌else◌}
use Rattle.std.specs.List.{All, AllPairs, Contains}
use Rattle.std.specs.Option.{option_map}
use Rattle.ob_model.specs.declared.objects.Entry.{Entry}
use Rattle.ob_model.specs.Descriptors.{Pair, Slots}
use Rattle.ob_model.specs.Entries.{Known, at_base}
use Rattle.ob_model.specs.Limits.{heap_start}
use Rattle.ob_access.specs.declared.pointee.Pointee.{Pointee}
use Rattle.ob_away.specs.Slots.{Descriptors}
use Rattle.ob_objects.specs.Objects.{Objects, IsInOrder}
use Rattle.ob_pointers.specs.Pointing.{Pointing, IsHeapPlace}

-- ---- marks

abbrev pub mark_index : ℕ → ℕ
mark_index base = (base - heap_start) / 16

abbrev pub is_marked : List Bool → ℕ → Bool
is_marked marks base = if nat_lt base heap_start then false else slice_index_or marks (mark_index base) false

abbrev pub with_mark : List Bool → ℕ → Bool → List Bool
with_mark marks base freed = if nat_lt base heap_start then marks else slice_set marks (mark_index base) freed

-- ---- the objects and slots, as callers see them

-- the objects, each with its mark
abbrev pub known : List Bool → Entry → Known
known marks e = record { entry = e; freed = is_marked marks e.base }

abbrev pub known_in : List Bool → List Entry → List Known
known_in marks entries = map (known marks) entries

-- the slots, each with the number of the object that its pair names by its base
abbrev pub number_of : Option Entry → ℕ
number_of None = 0
number_of (Some e) = e.object

abbrev pub number_at : List Entry → ℕ → ℕ
number_at entries base = number_of (at_base base entries)

abbrev pub numbered : List Entry → Pair → Pair
numbered entries pair = (number_at entries pair.0, pair.1)

abbrev pub slots_in : List Entry → Slots → Slots
slots_in entries slots = map (option_map (numbered entries)) slots

abbrev pub pointing_in : Objects → List Bool → Descriptors → ℕ → Pointing
pointing_in objects marks away heap =
    record {
      most = objects.most;
      away = away.limit;
      heap = heap;
      entries = known_in marks objects.entries;
      slots = slots_in objects.entries away.slots;
    }

-- ---- what is kept

abbrev pub HaveTwoNumbers : Entry → Entry → Type 0
HaveTwoNumbers e f = e.object ≢ f.object

-- an object begins here
pub record Begins (entries : List Entry) (base : ℕ) : Type 0 where
  pub entry : Entry
  pub among : Contains entries entry
  pub there : entry.base ≡ base

-- the objects are in order and apart, with numbers of their own; each slot's pair names the base of one; each mark is that of
-- one which begins there
pub record IsKept (entries : List Entry) (marks : List Bool) (slots : Slots) (heap : ℕ) : Type 0 where
  pub in_order : IsInOrder entries
  pub numbers : AllPairs HaveTwoNumbers entries
  pub near : All (λ e. e.base + e.size < 2 ^ 63) entries
  pub places : All (IsHeapPlace heap) entries
  pub bases : (pair : Pair) → Contains slots (Some pair) → Begins entries pair.0
  pub marked : (i : ℕ) → slice_index_or marks i false ≡ true → Begins entries (heap_start + 16 * i)
  pub room : length marks ≡ heap / 16 + 1

-- ---- what a word names

abbrev pub pointee_at : List Bool → ℕ → Entry → Pointee
pointee_at marks w e = record { entry = e; freed = is_marked marks e.base; offset = pos (w - e.base) }

abbrev pub with_offset : ℤ → Pointee → Pointee
with_offset offset p = record p { offset = offset }
