-- The objects that a machine knows, live ones and freed ones, and the slots of pointers out of bounds: all that the meaning of
-- a word rests on.
use Rattle.std.specs.Prelude.{◌≡◌, ◌≢◌, ℕ, ◌+◌, ◌<◌, ◌≤◌, ◌^◌, ◌%◌, ℤ, List, Result, Ok, Err}
use Rattle.std.specs.List.{All, AllPairs, Contains}
use Rattle.ob_model.specs.declared.objects.Entry.{Entry}
use Rattle.ob_model.specs.declared.values.Value.{Value}
use Rattle.ob_model.specs.Descriptors.{Slots, named_pair}
use Rattle.ob_model.specs.Entries.{Known, known_at}
use Rattle.ob_model.specs.Limits.{heap_start}
use Rattle.ob_code.specs.Pointers as pointers
use Rattle.ob_code.specs.Pointers.{Target, by_address, by_slot, pointer_of, Shifted, shift}
use Rattle.ob_code.specs.State.{Space}
use Rattle.ob_access.specs.declared.pointee.Pointee.{Pointee}
use Rattle.ob_pointers.specs.declared.pointers.ShiftAnswer.{ShiftAnswer}
use Rattle.ob_pointers.specs.declared.pointers.ShiftAnswer.TheVariants.{Full, Far}

-- how many objects may be known at a time, how many pairs may have a slot, the bytes of the heap, the objects, and the slots
pub record Pointing : Type 0 where
  pub most : ℕ
  pub away : ℕ
  pub heap : ℕ
  pub entries : List Known
  pub slots : Slots

-- a space of the definition with these objects and slots
abbrev pub with_pointing : Pointing → Space → Space
with_pointing p s = record s { entries = p.entries; slots = p.slots }

-- what a word names, and the pointer that it stands for there
abbrev pub target_in : Pointing → ℕ → Target
target_in p w = by_address (known_at w p.entries) w (by_slot (named_pair p.slots w) p.entries)

abbrev pub pointer_in : Pointing → ℕ → Value
pointer_in p w = pointer_of (target_in p w)

-- what a move answers, and that it is what the definition gives
abbrev pub as_shifted : Result ℕ ShiftAnswer → Space → Shifted
as_shifted (Ok w) s = pointers.shifted w s
as_shifted (Err Full) s = pointers.no_slot
as_shifted (Err Far) s = pointers.too_far

abbrev pub Shifts : ℕ → ℤ → Pointing → Result ℕ ShiftAnswer → Pointing → Type 0
Shifts w d old answer new =
    (s : Space) → shift old.away (with_pointing old s) w d ≡ as_shifted answer (with_pointing new s)

-- each address of one object is below each of the other, where one past its end is an address of an object
abbrev pub EndsBefore : Known → Known → Type 0
EndsBefore k l = k.entry.base + k.entry.size < l.entry.base

abbrev pub HaveTwoNumbers : Known → Known → Type 0
HaveTwoNumbers k l = k.entry.object ≢ l.entry.object

-- an object of the heap begins at a multiple of 16 within it
abbrev pub IsHeapPlace : ℕ → Entry → Type 0
IsHeapPlace heap e = heap_start ≤ e.base → (e.base % 16 ≡ 0) × (e.base < heap_start + heap)

-- what holds of the objects at any time: they are in order of their bases and meet nowhere, each has a number of its own, and
-- each ends below 2 ^ 63
pub record IsSound (p : Pointing) : Type 0 where
  pub in_order : AllPairs EndsBefore p.entries
  pub numbers : AllPairs HaveTwoNumbers p.entries
  pub near : All (λ k. k.entry.base + k.entry.size < 2 ^ 63) p.entries
  pub heap : All (λ k. IsHeapPlace p.heap k.entry) p.entries

-- what a pointer points into is known
abbrev pub IsKnownPointee : List Known → Pointee → Type 0
IsKnownPointee entries p = Contains entries (record { entry = p.entry; freed = p.freed })

-- an object that is known begins here and has this number
pub record IsAt (base object : ℕ) (p : Pointing) : Type 0 where
  pub k : Known
  pub known : Contains p.entries k
  pub there : k.entry.base ≡ base
  pub number : k.entry.object ≡ object
