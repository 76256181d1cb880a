-- Where a moved pointer is placed, as the program answers it.
use Rattle.std.specs.Prelude.{◌≡◌, ℕ, Result, Ok, Err}
use Rattle.ob_model.specs.Descriptors.{Pair, slot_of}
use Rattle.ob_code.specs.Pointers.{Target, nothing, into, base_of, placed, slot_for}
use Rattle.ob_code.specs.State.{Space}
use Rattle.ob_access.specs.declared.shift.Shift.{Shift}
use Rattle.ob_access.specs.declared.shift.Shift.TheVariants.{StaysNull, TooFar, InBounds, OutOfBounds}
use Rattle.ob_access.specs.Shifts.{as_moved}
use Rattle.ob_away.specs.declared.table.Full as away
use Rattle.ob_pointers.specs.declared.pointers.ShiftAnswer.{ShiftAnswer}
use Rattle.ob_pointers.specs.declared.pointers.ShiftAnswer.TheVariants as answer
use Rattle.ob_pointers.specs.Pointing.{Pointing, as_shifted, with_pointing}

-- a pointer that leaves its object goes to an offset of that object, and null goes nowhere
abbrev pub IsMoveOf : Target → Shift → Type 0
IsMoveOf t StaysNull = Unit {0}
IsMoveOf t TooFar = Unit {0}
IsMoveOf t (InBounds object offset) = Unit {0}
IsMoveOf nothing (OutOfBounds object offset) = ⊥
IsMoveOf (into k place) (OutOfBounds object offset) = object ≡ k.entry.object

-- the answer for a pointer that goes there is that of the definition
abbrev pub Places : Target → Shift → Pointing → Result ℕ ShiftAnswer → Pointing → Type 0
Places t to old answer new =
    (s : Space) → placed old.away (base_of t) (as_moved to) (with_pointing old s) ≡ as_shifted answer (with_pointing new s)

-- the answer of the table of slots
abbrev pub as_answer : Result ℕ away.Full → Result ℕ ShiftAnswer
as_answer (Ok w) = Ok w
as_answer (Err full) = Err answer.Full

-- the answer for a pair is that of the definition
abbrev pub IsSlotted : Pair → Pointing → Result ℕ ShiftAnswer → Pointing → Type 0
IsSlotted pair old answer new =
    (s : Space) → slot_for (slot_of old.slots pair) old.away pair (with_pointing old s) ≡ as_shifted answer (with_pointing new s)
