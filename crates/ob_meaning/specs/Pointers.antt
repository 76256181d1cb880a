-- Moving and comparing pointers (C99 6.5.6, 6.5.8 and 6.5.9). A pointer may leave its object and come back. Those that lie
-- outside 0 to their object's size are kept in a list, of at most as many pairs as the settings say. Moving, ordering and
-- subtracting a dead object's pointer uses it, and so does comparing it with a pointer that isn't null. A freed object's pointer
-- is moved and compared as a live one's.
use Rattle.std.specs.Prelude.{ℕ, ◌&&◌, ◌||◌, not, nat_lt, Bool, true, false, ℤ, pos, ◌-ℤ◌, ◌*ℤ◌, List, ◌∷◌, length, is_some, if◌then◌else◌}
use Rattle.std.specs.List.{find}
use Rattle.ob_words.specs.declared.types.IntType.TheVariants.{Long}
use Rattle.ob_words.specs.declared.types.Relation.{Relation}
use Rattle.ob_words.specs.declared.types.Relation.TheVariants.{Lt, Gt, Le, Ge, Eq, Ne}
use Rattle.ob_words.specs.Conversion.{convert}
use Rattle.ob_model.specs.declared.endings.Ending.TheVariants.{Far, Descriptors}
use Rattle.ob_model.specs.declared.values.Value.{Value}
use Rattle.ob_model.specs.declared.values.Value.TheVariants as value
use Rattle.ob_model.specs.Accesses.{is_far}
use Rattle.ob_model.specs.Descriptors.{Pair, same_pair}
use Rattle.ob_model.specs.Endings.{plain, dead}
use Rattle.ob_model.specs.Pointers.{Moved, stays_null, too_far, in_bounds, out_of_bounds, difference, is_null, moved_by, object_of, pointers_compare}
use Rattle.ob_meaning.specs.Memory.{Object, is_dead, object_at}
use Rattle.ob_meaning.specs.Values.{truth}
use Rattle.ob_meaning.specs.World.{World, Run, stop, go}

-- ---- displacements

-- so many elements of a size forward or backward, as an exact number of bytes; the number of elements is a `long`
abbrev pub stride : Bool → ℕ → ℤ → ℤ
stride false scale n = pos scale *ℤ convert Long n
stride true scale n = pos 0 -ℤ (pos scale *ℤ convert Long n)

-- a displacement that is formed ends the run where it lies too far out
abbrev pub formed : {A : Type 0} → ℤ → World → (ℤ → World → Run A) → Run A
formed d w k = if is_far d then stop (plain Far) w else k d w

-- ---- moves

abbrev pub is_listed : Pair → List Pair → Bool
is_listed pair pairs = is_some (find (same_pair pair) pairs)

-- a pointer outside its object is listed, where it isn't yet and there is room
abbrev pub listed : ℕ → Pair → World → Run Value
listed away pair w =
    if is_listed pair w.out_of_bounds then go (value.Ptr pair.0 pair.1) w
    else (if nat_lt (length w.out_of_bounds) away
    then go (value.Ptr pair.0 pair.1) (record w { out_of_bounds = pair ∷ w.out_of_bounds })
    else stop (plain Descriptors) w)

-- what a move gives, once it is known where it leads
abbrev pub moved : ℕ → Moved → World → Run Value
moved away stays_null w = go value.Null w
moved away too_far w = stop (plain Far) w
moved away (in_bounds object offset) w = go (value.Ptr object offset) w
moved away (out_of_bounds object offset) w = listed away (object, offset) w

-- the size of the object that a pointer points to
abbrev pub size_at : List Object → Value → ℕ
size_at objects p = (object_at objects (object_of p)).size

-- a pointer is moved by d bytes
abbrev pub move : ℕ → ℕ → Value → ℤ → World → Run Value
move away line p d w =
    if is_dead w.objects p then stop (dead line) w
    else formed d w (λ e w1. moved away (moved_by (size_at w1.objects p) p e) w1)

-- ---- comparisons

-- one of two pointers is dead, and the comparison uses it
abbrev pub one_is_dead : World → Value → Value → Bool
one_is_dead w p q = is_dead w.objects p || is_dead w.objects q

abbrev pub uses_dead : Relation → World → Value → Value → Bool
uses_dead Eq w p q = not (is_null p) && (not (is_null q) && one_is_dead w p q)
uses_dead Ne w p q = not (is_null p) && (not (is_null q) && one_is_dead w p q)
uses_dead Lt w p q = one_is_dead w p q
uses_dead Gt w p q = one_is_dead w p q
uses_dead Le w p q = one_is_dead w p q
uses_dead Ge w p q = one_is_dead w p q

abbrev pub compared : Relation → ℕ → Value → Value → World → Run Value
compared r line p q w =
    if uses_dead r w p q then stop (dead line) w else go (truth (pointers_compare r p q)) w

-- how many elements lie from q to p
abbrev pub subtracted : ℕ → ℕ → Value → Value → World → Run Value
subtracted size line p q w =
    if one_is_dead w p q then stop (dead line) w else go (value.Num (convert Long (difference size p q))) w
