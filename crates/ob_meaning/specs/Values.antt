-- Values (C99 6.2.5): a number, null, or a pair of an object and an offset in bytes. No value has an address. What a load or
-- a store moves is a number of an integer type or a pointer.
use Rattle.std.specs.Prelude.{ℕ, ◌/◌, Bool, true, false, not, ℤ, pos, List, Option}
use Rattle.std.specs.Option.{option_map}
use Rattle.std.specs.Ordering.{int_eq}
use Rattle.ob_words.specs.Fields.{low_bytes}
use Rattle.ob_words.specs.Types.{width}
use Rattle.ob_words.specs.Words.{word, number}
use Rattle.ob_model.specs.declared.values.LoadKind.{LoadKind}
use Rattle.ob_model.specs.declared.values.LoadKind.TheVariants.{Num, Ptr}
use Rattle.ob_model.specs.declared.values.Value.{Value}
use Rattle.ob_model.specs.declared.values.Value.TheVariants as value
use Rattle.ob_model.specs.Accesses.{place_in_granule}
use Rattle.ob_model.specs.Cells.{Content, pointer, read_number, read_pointer, written}
use Rattle.ob_model.specs.Manufactured.{manufactured_number}

-- what a granule holds
abbrev pub Cell : Type 0
Cell = Content Value

-- the number of a value, where a number stands
abbrev pub number_of : Value → ℤ
number_of (value.Num n) = n
number_of value.Null = pos 0
number_of (value.Ptr object offset) = pos 0

-- whether a value is other than 0 and null, as the tests of `if`, loops, `&&`, `||` and `?:` see it
abbrev pub is_true : Value → Bool
is_true (value.Num n) = not (int_eq n (pos 0))
is_true value.Null = false
is_true (value.Ptr object offset) = true

-- the `int` of a test
abbrev pub truth : Bool → Value
truth true = value.Num (pos 1)
truth false = value.Num (pos 0)

-- the value of an expression of type void, which nothing uses
abbrev pub nothing : Value
nothing = value.Num (pos 0)

-- what a load of this kind gets from a place of a cycle of manufactured values: a number of its type, or null
abbrev pub made_value : LoadKind → List ℕ → ℕ → Value
made_value (Num t) cycle place = value.Num (manufactured_number t cycle place)
made_value Ptr cycle place = value.Null

-- what a load of this kind at an offset finds in its granule, or none where a byte that it reads is unset
abbrev pub read_cell : LoadKind → ℤ → Cell → Option Value
read_cell (Num t) offset c = option_map (λ n. value.Num (number t n)) (read_number (width t / 8) (place_in_granule offset) c)
read_cell Ptr offset c = read_pointer value.Null c

-- the granule after a store of this kind at an offset: a number's bytes are written, a pointer takes the whole granule
abbrev pub write_cell : LoadKind → ℤ → Value → Cell → Cell
write_cell (Num t) offset v c = written (place_in_granule offset) (low_bytes (width t / 8) (word (number_of v))) c
write_cell Ptr offset v c = pointer v
