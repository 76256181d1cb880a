-- Moving and comparing pointers (C99 6.5.6, 6.5.8 and 6.5.9). A pointer may leave its object and come back. Freed objects'
-- pointers are moved and compared as those of live objects are.
use Rattle.std.specs.Prelude.{ℕ, ◌==◌, ◌&&◌, ◌||◌, not, nat_lt, Bool, true, false, ℤ, pos, ◌+ℤ◌, ◌-ℤ◌, int_lt, int_div, if◌then◌else◌}
use Rattle.std.specs.Ordering.{int_eq}
use Rattle.ob_words.specs.declared.types.Relation.{Relation}
use Rattle.ob_words.specs.declared.types.Relation.TheVariants.{Lt, Gt, Le, Ge, Eq, Ne}
use Rattle.ob_model.specs.declared.values.Value.{Value}
use Rattle.ob_model.specs.declared.values.Value.TheVariants as value
use Rattle.ob_model.specs.Accesses.{is_far, is_inside}

-- null counts as object 0 with offset 0
abbrev pub object_of : Value → ℕ
object_of (value.Num n) = 0
object_of value.Null = 0
object_of (value.Ptr object offset) = object

abbrev pub offset_of : Value → ℤ
offset_of (value.Num n) = pos 0
offset_of value.Null = pos 0
offset_of (value.Ptr object offset) = offset

-- ---- moves

-- what moving a pointer gives: null, which stays null; an offset that lies too far out; a pointer in bounds, whose offset lies
-- from 0 to the size of its object; or one out of bounds, which has to be listed
pub data Moved : Type 0 where
  stays_null : Moved
  too_far : Moved
  in_bounds : (object : ℕ) (offset : ℤ) → Moved
  out_of_bounds : (object : ℕ) (offset : ℤ) → Moved

-- a pointer to an offset of an object of this size
abbrev pub moved_to : ℕ → ℕ → ℤ → Moved
moved_to size object offset =
    if is_far offset then too_far else (if is_inside size offset 0 then in_bounds object offset else out_of_bounds object offset)

-- a pointer moved by a displacement that isn't too far; the size is that of its object
abbrev pub moved_by : ℕ → Value → ℤ → Moved
moved_by size (value.Num n) d = stays_null
moved_by size value.Null d = stays_null
moved_by size (value.Ptr object offset) d = moved_to size object (offset +ℤ d)

-- ---- comparisons

abbrev pub is_null : Value → Bool
is_null (value.Num n) = true
is_null value.Null = true
is_null (value.Ptr object offset) = false

-- two pointers are equal where both are null, or their objects and offsets agree
abbrev pub is_same : Value → Value → Bool
is_same (value.Ptr object offset) (value.Ptr other place) = (object == other) && int_eq offset place
is_same p q = is_null p && is_null q

-- pointers are in order of their objects, and then of their offsets
abbrev pub is_before : Value → Value → Bool
is_before p q = nat_lt (object_of p) (object_of q) || ((object_of p == object_of q) && int_lt (offset_of p) (offset_of q))

abbrev pub pointers_compare : Relation → Value → Value → Bool
pointers_compare Lt p q = is_before p q
pointers_compare Gt p q = is_before q p
pointers_compare Le p q = not (is_before q p)
pointers_compare Ge p q = not (is_before p q)
pointers_compare Eq p q = is_same p q
pointers_compare Ne p q = not (is_same p q)

-- how many elements of a size lie from q to p, truncated toward zero; 0 between two objects
abbrev pub difference : ℕ → Value → Value → ℤ
difference size p q =
    if object_of p == object_of q then int_div (offset_of p -ℤ offset_of q) (pos size) else pos 0
