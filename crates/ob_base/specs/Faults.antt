-- A device's count of faults. It never falls. A device answers that it failed only in a call in which the count rose, or where it tells what it has and was asked for something else. Code that is generic over a device has no way to raise the count, so it can't report a fault that the device didn't have.
use Rattle.std.specs.Prelude.{ℕ, ◌+◌, ◌-◌, ◌^◌, ◌≤◌, min}

-- the value at which a count of faults stays
abbrev pub last_count : ℕ
last_count = 2 ^ 64 - 1

-- the count after one more fault
abbrev pub raised : ℕ → ℕ
raised count = min (count + 1) last_count

-- the count rose, or stands at its last value
abbrev pub Rose : ℕ → ℕ → Type 0
Rose before now = (before ≤ now) × (raised before ≤ now)

-- no call failed between these two counts
abbrev pub NoFault : ℕ → ℕ → Type 0
NoFault before now = ¬ Rose before now
