-- The objects of the heap (C99 7.20.3), input and output (7.19.7), and `exit` (7.20.4.3). A new object lies at the first place
-- that fits; its place decides whether there is room, and nothing else.
use Rattle.std.specs.Prelude.{ℕ, ◌%◌, ◌==◌, Bool, ℤ, pos, negsuc, unsigned_abs, List, [], ◌∷◌, ◌++◌, Option, Some, None, if◌then◌else◌}
use Rattle.ob_words.specs.declared.types.IntType.TheVariants.{Int, UChar, ULong}
use Rattle.ob_words.specs.Conversion.{convert}
use Rattle.ob_model.specs.declared.endings.Ending.TheVariants.{Ended, ReadFault}
use Rattle.ob_model.specs.declared.objects.Sort.TheVariants.{Heap}
use Rattle.ob_model.specs.declared.settings.Profile.{Profile}
use Rattle.ob_model.specs.declared.settings.Profile.TheVariants.{One, Two}
use Rattle.ob_model.specs.declared.strays.Act.TheVariants as act
use Rattle.ob_model.specs.declared.values.Value.{Value}
use Rattle.ob_model.specs.declared.values.Value.TheVariants as value
use Rattle.ob_model.specs.Accesses.{stray_event}
use Rattle.ob_model.specs.Endings.{InputEnd, closed, failed, plain, dead}
use Rattle.ob_model.specs.Heap.{place_for, with_object}
use Rattle.ob_model.specs.Objects.{frees, is_freed}
use Rattle.ob_meaning.specs.Memory.{Object, is_dead, new_object, next_number, object_at}
use Rattle.ob_meaning.specs.Values.{nothing, number_of}
use Rattle.ob_meaning.specs.World.{World, Run, stop, go, told, with_freed, without}

-- ---- allocation

-- an object of n bytes at a place of the heap, or null where no place fits
abbrev pub allocated_at : Option ℕ → ℕ → World → Run Value
allocated_at None n w = go value.Null w
allocated_at (Some place) n w =
    go (value.Ptr (next_number w.objects) (pos 0))
    (record w {
      objects = w.objects ++ new_object Heap n ∷ [];
      heap = with_object (next_number w.objects) place n w.heap;
    })

abbrev pub allocated : ℕ → ℕ → World → Run Value
allocated heap n w = allocated_at (place_for w.heap heap n) n w

-- the number of bytes that a `size_t` asks for
abbrev pub byte_count : Value → ℕ
byte_count v = unsigned_abs (convert ULong (number_of v))

-- ---- `free`

-- what becomes of an object that is freed: under the first profile it dies, under the second it stays known
abbrev pub freed_under : Profile → ℕ → World → World
freed_under One object w = without (λ other. other == object) w
freed_under Two object w = with_freed object w

-- whether a pointer to this offset frees its object: that to the first byte of a live heap object does
abbrev pub frees_it : Object → ℤ → Bool
frees_it o offset = frees (is_freed o.state) o.sort offset

-- any other pointer to a live or freed object goes astray, and nothing else happens; null does nothing
abbrev pub free_known : Profile → ℕ → Value → World → Run Value
free_known profile line (value.Num n) w = go nothing w
free_known profile line value.Null w = go nothing w
free_known profile line (value.Ptr object offset) w =
    if frees_it (object_at w.objects object) offset then go nothing (freed_under profile object w)
    else go nothing (told (stray_event line act.Free object offset 0) w)

abbrev pub free : Profile → ℕ → Value → World → Run Value
free profile line p w = if is_dead w.objects p then stop (dead line) w else free_known profile line p w

-- ---- input, output and `exit`

-- the next byte, or -1 at the end; a source gives bytes alone, but the list may be any: each of its numbers counts modulo 256
abbrev pub read_byte : InputEnd → List ℕ → World → Run Value
read_byte input_end (byte ∷ rest) w = go (value.Num (pos (byte % 256))) (record w { input = rest })
read_byte closed [] w = go (value.Num (negsuc 0)) w
read_byte failed [] w = stop (plain ReadFault) w

-- a number is written as an `unsigned char`, which is given
abbrev pub write_byte : Value → World → Run Value
write_byte v w =
    go (value.Num (convert UChar (number_of v)))
    (record w { output = w.output ++ unsigned_abs (convert UChar (number_of v)) ∷ [] })

abbrev pub exited : Value → World → Run Value
exited v w = stop (plain (Ended (convert Int (number_of v)))) w
