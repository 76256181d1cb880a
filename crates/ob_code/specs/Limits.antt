-- How many rows each part of an image has at most, and the greatest numbers that a row may hold.
use Rattle.std.specs.Prelude.{ℕ, ◌^◌}

abbrev pub most_statics : ℕ
most_statics = 262144

abbrev pub most_pointers : ℕ
most_pointers = 524288

abbrev pub most_functions : ℕ
most_functions = 65536

abbrev pub most_instructions : ℕ
most_instructions = 1048576

abbrev pub most_names : ℕ
most_names = 1048576

-- the words and variables of a function, and the bytes of stack that a call counts for
abbrev pub most_words : ℕ
most_words = 4194304

abbrev pub most_variables : ℕ
most_variables = 524288

abbrev pub most_allowance : ℕ
most_allowance = 2 ^ 62

-- the size of an element, or the offset of a member, in an instruction
abbrev pub most_scale : ℕ
most_scale = 4194304

-- the bytes of a name
abbrev pub most_name_bytes : ℕ
most_name_bytes = 1048576
