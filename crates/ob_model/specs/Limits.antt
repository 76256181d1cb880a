-- The limits of programs and of their runs, and the addresses of the machine.
use Rattle.std.specs.Prelude.{ℕ, ◌^◌}

-- the most bytes of one object, or of one type, and those that the blocks of all static objects take together
abbrev pub most_object_bytes : ℕ
most_object_bytes = 4194304

abbrev pub most_static_bytes : ℕ
most_static_bytes = 4194304

-- the bytes of the stack
abbrev pub stack_bytes : ℕ
stack_bytes = 1048576

-- the most bytes of the heap
abbrev pub most_heap_bytes : ℕ
most_heap_bytes = 67108864

-- the most granules that are kept outside of objects, and the most pointers that are kept out of bounds
abbrev pub most_outside_granules : ℕ
most_outside_granules = 1048576

abbrev pub most_away_pointers : ℕ
most_away_pointers = 1048576

-- offsets and displacements run from minus this to this
abbrev pub most_offset : ℕ
most_offset = 2 ^ 62

-- where static objects, the stack, the heap and the words of out-of-bounds pointers begin
abbrev pub statics_start : ℕ
statics_start = 4096

abbrev pub stack_start : ℕ
stack_start = 2 ^ 24

abbrev pub heap_start : ℕ
heap_start = 2 ^ 25

abbrev pub slots_start : ℕ
slots_start = 2 ^ 40

-- how far apart the words of two neighbouring slots are
abbrev pub slot_distance : ℕ
slot_distance = 16
