-- Manufactured values: what loads that go astray give (Rinard and others, OSDI 2004). They come from a cycle of numbers,
-- which is not empty, one after another.
use Rattle.std.specs.Prelude.{ℕ, ◌+◌, ◌==◌, ℤ, pos, List, length, slice_index, if◌then◌else◌}
use Rattle.ob_words.specs.declared.types.IntType.{IntType}
use Rattle.ob_words.specs.Conversion.{convert}

-- the number at a place of the cycle, and the place after it
abbrev pub manufactured : List ℕ → ℕ → ℕ
manufactured cycle place = slice_index cycle place

abbrev pub place_after : List ℕ → ℕ → ℕ
place_after cycle place = if place + 1 == length cycle then 0 else place + 1

-- what a load of a number gets: the number of its type; a load of a pointer gets null, and moves on in the cycle as well
abbrev pub manufactured_number : IntType → List ℕ → ℕ → ℤ
manufactured_number t cycle place = convert t (pos (manufactured cycle place))
