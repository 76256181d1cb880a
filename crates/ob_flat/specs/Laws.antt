-- Laws above the definitions, in terms of addresses.
use Rattle.std.specs.Prelude.{◌≡◌, ◌≢◌, ℕ, ◌+◌, ◌/◌, ◌%◌, ◌^◌, ◌≤◌, ◌⊎◌, Bool, false}
use Rattle.ob_flat.specs.Memory.{Memory, IsIn, IsLaidOut, field, with_field, has_mark, with_mark, with_zeros}

-- a field that was put is read again, up to the bytes that it has
abbrev pub FieldIsRead : Type 0
FieldIsRead =
    (m : Memory) (address size w : ℕ) →
    IsLaidOut m →
    IsIn m address size →
    field (with_field m address size w) address size ≡ w % 256 ^ size

-- bytes that it doesn't meet are kept, in each of the ranges
abbrev pub OtherFieldsAreKept : Type 0
OtherFieldsAreKept =
    (m : Memory) (address size w other n : ℕ) →
    IsLaidOut m →
    IsIn m address size →
    IsIn m other n →
    (address + size ≤ other) ⊎ (other + n ≤ address) →
    field (with_field m address size w) other n ≡ field m other n

-- a mark that was set is read again, and the mark of each other granule is kept
abbrev pub MarkIsRead : Type 0
MarkIsRead =
    (m : Memory) (address : ℕ) (pointer : Bool) →
    IsLaidOut m →
    IsIn m address 1 →
    has_mark (with_mark m address pointer) address ≡ pointer

abbrev pub OtherMarksAreKept : Type 0
OtherMarksAreKept =
    (m : Memory) (address other : ℕ) (pointer : Bool) →
    IsLaidOut m →
    IsIn m address 1 →
    IsIn m other 1 →
    address / 8 ≢ other / 8 →
    has_mark (with_mark m address pointer) other ≡ has_mark m other

-- among bytes that were made zero each field is 0, and no granule holds a pointer
abbrev pub ZerosAreRead : Type 0
ZerosAreRead =
    (m : Memory) (address n other size : ℕ) →
    IsLaidOut m →
    IsIn m address n →
    address ≤ other →
    other + size ≤ address + n →
    field (with_zeros m address n) other size ≡ 0

abbrev pub ZerosHaveNoMark : Type 0
ZerosHaveNoMark =
    (m : Memory) (address n other : ℕ) →
    IsLaidOut m →
    IsIn m address n →
    address % 8 ≡ 0 →
    n % 8 ≡ 0 →
    address ≤ other →
    other + 1 ≤ address + n →
    has_mark (with_zeros m address n) other ≡ false

-- all other bytes and marks are kept
abbrev pub OthersAreKeptByZeros : Type 0
OthersAreKeptByZeros =
    (m : Memory) (address n other size : ℕ) →
    IsLaidOut m →
    IsIn m address n →
    IsIn m other size →
    (address + n ≤ other) ⊎ (other + size ≤ address) →
    field (with_zeros m address n) other size ≡ field m other size

abbrev pub OtherMarksAreKeptByZeros : Type 0
OtherMarksAreKeptByZeros =
    (m : Memory) (address n other : ℕ) →
    IsLaidOut m →
    IsIn m address n →
    IsIn m other 1 →
    address % 8 ≡ 0 →
    n % 8 ≡ 0 →
    (address + n ≤ other) ⊎ (other + 1 ≤ address) →
    has_mark (with_zeros m address n) other ≡ has_mark m other

-- each change keeps the layout
abbrev pub LayoutIsKept : Type 0
LayoutIsKept =
    (m : Memory) (address n w : ℕ) (pointer : Bool) →
    IsLaidOut m →
    IsIn m address n →
    IsLaidOut (with_field m address n w) × IsLaidOut (with_mark m address pointer) × IsLaidOut (with_zeros m address n)
