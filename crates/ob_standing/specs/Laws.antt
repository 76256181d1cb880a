-- Words that stand for values, before and after each change of memory.
use Rattle.std.specs.Prelude.{◌≡◌, ℕ, ◌≤◌, ◌<◌, Bool, ℤ, List, Option}
use Rattle.std.specs.List.{All}
use Rattle.ob_model.specs.declared.settings.Profile.{Profile}
use Rattle.ob_model.specs.declared.values.Value.{Value}
use Rattle.ob_model.specs.Entries.{Known}
use Rattle.ob_code.specs.declared.image.FunctionRow.{FunctionRow}
use Rattle.ob_code.specs.Allocation.{Freeing, allocated_at, space_after_free}
use Rattle.ob_code.specs.Frames.{entered, left_call}
use Rattle.ob_code.specs.Pointers.{Shifted, shifted, too_far, no_slot, shift}
use Rattle.ob_code.specs.Standing.{Stands}
use Rattle.ob_code.specs.State.{Call, Space}

-- each word stands afterwards for what it stood for
abbrev pub KeepsStanding : Space → Space → Type 0
KeepsStanding s t = (w : ℕ) (v : Value) → Stands s w v → Stands t w v

-- no object lies at address 0, and each has a number that was given out
abbrev pub IsGivenOut : ℕ → Known → Type 0
IsGivenOut next k = (1 ≤ k.entry.base) × (1 ≤ k.entry.object) × (k.entry.object < next)

abbrev pub AreGivenOut : Space → Type 0
AreGivenOut s = All (IsGivenOut s.next) s.entries

-- whatever changes of bytes, marks, the heap's list, the bounded list and the calls
abbrev pub OtherChangesKeep : Type 0
OtherChangesKeep = (s t : Space) → t.entries ≡ s.entries → t.slots ≡ s.slots → t.next ≡ s.next → KeepsStanding s t

-- a pointer is moved
abbrev pub KeepsWhenShifted : Space → Shifted → Type 0
KeepsWhenShifted s (shifted w t) = KeepsStanding s t
KeepsWhenShifted s too_far = Unit {0}
KeepsWhenShifted s no_slot = Unit {0}

abbrev pub MovesKeep : Type 0
MovesKeep = (away : ℕ) (s : Space) (w : ℕ) (d : ℤ) → KeepsWhenShifted s (shift away s w d)

-- objects are made
abbrev pub CallsKeep : Type 0
CallsKeep = (functions : List FunctionRow) (f link : ℕ) (s : Space) → AreGivenOut s → KeepsStanding s (entered functions f link s)

abbrev pub AllocationsKeep : Type 0
AllocationsKeep = (place : Option ℕ) (n : ℕ) (s : Space) → AreGivenOut s → KeepsStanding s (allocated_at place n s)

-- objects die, or are freed and stay known
abbrev pub ReturnsKeep : Type 0
ReturnsKeep = (functions : List FunctionRow) (c : Call) (cs : List Call) (s : Space) → AreGivenOut s → KeepsStanding s (left_call functions c cs s)

abbrev pub FreesKeep : Type 0
FreesKeep = (profile : Profile) (x : Freeing) (s : Space) → AreGivenOut s → KeepsStanding s (space_after_free profile x s)
