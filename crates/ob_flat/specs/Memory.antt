-- The memory of the flat machine: one list of bytes for three ranges of addresses, and for each granule of eight bytes a mark
-- that says whether it holds a pointer. Each range is kept in whole granules.
use Rattle.std.specs.Prelude.{◌≡◌, ℕ, ◌+◌, ◌-◌, ◌*◌, ◌/◌, ◌≤◌, ◌⊎◌, Bool, false, List, ◌++◌, length, take, drop, replicate, slice_index_or, slice_set, nat_lt, if◌then◌else◌}
use Rattle.ob_model.specs.Limits.{statics_start, stack_start, heap_start, most_static_bytes, stack_bytes, most_heap_bytes}
use Rattle.ob_words.specs.Fields as fields

pub record Memory : Type 0 where
  pub statics : ℕ
  pub stack : ℕ
  pub heap : ℕ
  pub bytes : List ℕ
  pub marks : List Bool

-- the bytes of so many bytes in whole granules
abbrev pub whole_granules : ℕ → ℕ
whole_granules n = (n + 7) / 8 * 8

abbrev pub capacity : ℕ → ℕ → ℕ → ℕ
capacity statics stack heap = whole_granules statics + whole_granules stack + whole_granules heap

-- where the byte of an address stands in the list: statics lie from 4096 on, the stack from 2 ^ 24 on, and the heap from
-- 2 ^ 25 on
abbrev pub index_of : ℕ → ℕ → ℕ → ℕ
index_of statics stack address =
    if nat_lt address stack_start then address - statics_start
    else (if nat_lt address heap_start then whole_granules statics + (address - stack_start) else whole_granules statics + whole_granules stack + (address - heap_start))

abbrev pub index : Memory → ℕ → ℕ
index m address = index_of m.statics m.stack address

-- n bytes from an address on lie in the range of so many bytes from start on
pub record IsWithin (start count address n : ℕ) : Type 0 where
  pub begins : start ≤ address
  pub ends : address + n ≤ start + count

-- n bytes from an address on lie in one of the three ranges
abbrev pub IsIn : Memory → ℕ → ℕ → Type 0
IsIn m address n =
    IsWithin statics_start m.statics address n ⊎ (IsWithin stack_start m.stack address n ⊎ IsWithin heap_start m.heap address n)

-- the ranges do not meet, and the lists are as long as they need
pub record IsLaidOut (m : Memory) : Type 0 where
  pub statics : m.statics ≤ most_static_bytes
  pub stack : m.stack ≤ stack_bytes
  pub heap : m.heap ≤ most_heap_bytes
  pub bytes : length m.bytes ≡ capacity m.statics m.stack m.heap
  pub marks : length m.marks ≡ capacity m.statics m.stack m.heap / 8

-- all bytes 0, and no pointer
abbrev pub zeroed : ℕ → ℕ → ℕ → Memory
zeroed statics stack heap =
    record {
      statics = statics;
      stack = stack;
      heap = heap;
      bytes = replicate (capacity statics stack heap) 0;
      marks = replicate (capacity statics stack heap / 8) false;
    }

-- the little-endian field of some bytes from an address on, and the memory with the low bytes of w there
abbrev pub field : Memory → ℕ → ℕ → ℕ
field m address size = fields.field_at m.bytes (index m address) size

abbrev pub with_field : Memory → ℕ → ℕ → ℕ → Memory
with_field m address size w = record m { bytes = fields.with_field m.bytes (index m address) size w }

-- whether the granule of an address holds a pointer
abbrev pub has_mark : Memory → ℕ → Bool
has_mark m address = slice_index_or m.marks (index m address / 8) false

abbrev pub with_mark : Memory → ℕ → Bool → Memory
with_mark m address pointer = record m { marks = slice_set m.marks (index m address / 8) pointer }

-- a list with n times x from a place on
abbrev pub filled : {A : Type 0} → List A → ℕ → ℕ → A → List A
filled xs place n x = take place xs ++ (replicate n x ++ drop (place + n) xs)

-- zero bytes, and no pointer, in n bytes from an address on; both are multiples of 8
abbrev pub with_zeros : Memory → ℕ → ℕ → Memory
with_zeros m address n =
    record m { bytes = filled m.bytes (index m address) n 0; marks = filled m.marks (index m address / 8) (n / 8) false }
