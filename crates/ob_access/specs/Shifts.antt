-- Where a moved pointer goes, as the program answers it.
use Rattle.std.specs.Prelude.{◌≡◌, ℕ, ℤ, false, Option, Some, None, if◌then◌else◌}
use Rattle.ob_model.specs.Accesses.{is_far, is_inside}
use Rattle.ob_model.specs.Pointers as moves
use Rattle.ob_access.specs.declared.shift.Shift.{Shift}
use Rattle.ob_access.specs.declared.shift.Shift.TheVariants.{StaysNull, TooFar, InBounds, OutOfBounds}

abbrev pub as_moved : Shift → moves.Moved
as_moved StaysNull = moves.stays_null
as_moved TooFar = moves.too_far
as_moved (InBounds object offset) = moves.in_bounds object offset
as_moved (OutOfBounds object offset) = moves.out_of_bounds object offset

-- where an offset that isn't too far lies, and none that is
abbrev pub landed : ℕ → ℕ → Option ℤ → moves.Moved
landed size object None = moves.too_far
landed size object (Some offset) = if is_inside size offset 0 then moves.in_bounds object offset else moves.out_of_bounds object offset

-- an offset that stays in bounds isn't too far
abbrev pub IsNear : Shift → Type 0
IsNear StaysNull = Unit {0}
IsNear TooFar = Unit {0}
IsNear (InBounds object offset) = is_far offset ≡ false
IsNear (OutOfBounds object offset) = is_far offset ≡ false
