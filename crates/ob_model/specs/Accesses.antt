-- Which accesses go astray. An object's bytes are numbered by offsets from 0 to its size, and every other offset lies
-- outside it (C99 6.5.6). Memory is seen in granules of eight bytes, which are numbered by whole numbers, negative ones too.
use Rattle.std.specs.Prelude.{ℕ, ◌+◌, ◌/◌, ◌%◌, Bool, true, false, ◌==◌, ◌&&◌, ◌||◌, nat_le, nat_lt, not, ℤ, pos, negsuc, ◌+ℤ◌, ◌≤ℤ◌, unsigned_abs}
use Rattle.std.specs.Int.{int_div_euclid, int_rem_euclid}
use Rattle.ob_words.specs.Types.{width}
use Rattle.ob_model.specs.declared.strays.Act.{Act}
use Rattle.ob_model.specs.declared.strays.StrayEvent.{StrayEvent}
use Rattle.ob_model.specs.declared.values.LoadKind.{LoadKind}
use Rattle.ob_model.specs.declared.values.LoadKind.TheVariants.{Num, Ptr}
use Rattle.ob_model.specs.Limits.{most_offset}

-- the bytes that a load or store moves
abbrev pub bytes_of_kind : LoadKind → ℕ
bytes_of_kind (Num t) = width t / 8
bytes_of_kind Ptr = 8

-- the k bytes from the offset on lie in an object of this size
abbrev pub IsInside : ℕ → ℤ → ℕ → Type 0
IsInside size offset k = (pos 0 ≤ℤ offset) × ((offset +ℤ pos k) ≤ℤ pos size)

abbrev pub is_inside : ℕ → ℤ → ℕ → Bool
is_inside size (pos n) k = nat_le (n + k) size
is_inside size (negsuc n) k = false

-- k divides the offset
abbrev pub is_aligned : ℤ → ℕ → Bool
is_aligned offset k = unsigned_abs offset % k == 0

-- an access goes astray where its pointer is a freed object's, where its size doesn't divide the offset, and where it isn't
-- inside; one through null always does
abbrev pub is_stray : Bool → ℕ → ℤ → ℕ → Bool
is_stray freed size offset k = freed || not (is_aligned offset k && is_inside size offset k)

-- the granule of an offset, rounded down, and the place of its byte there
abbrev pub granule : ℤ → ℤ
granule offset = int_div_euclid offset (pos 8)

abbrev pub place_in_granule : ℤ → ℕ
place_in_granule offset = unsigned_abs (int_rem_euclid offset (pos 8))

-- the granules that an object of this size has of its own: from 0 up to and not including this one
abbrev pub own_granules : ℕ → ℕ
own_granules size = (size + 7) / 8

abbrev pub is_own : ℕ → ℤ → Bool
is_own size (pos n) = nat_lt (n / 8) (own_granules size)
is_own size (negsuc n) = false

-- how far an access reaches: it stays inside its object; or it goes astray, at a granule of the object's own or outside of
-- those, where stray accesses are kept (boundless memory blocks: Rinard and others, ACSAC 2004); or it goes astray and vanishes
pub data Reach : Type 0 where
  inside : Reach
  own : Reach
  outside : Reach
  vanishing : Reach

-- a stray access, by whether it is kept and whether its granule is the object's own
abbrev pub stray_reach : Bool → Bool → Reach
stray_reach false its_own = vanishing
stray_reach true true = own
stray_reach true false = outside

abbrev pub reach_if : Bool → Reach → Reach
reach_if true astray = astray
reach_if false astray = inside

-- how far an access reaches, by whether stray accesses are kept, whether its object is freed, the object's size, its offset and
-- its own size; one through a freed object's pointer is never kept, and neither is an ill-aligned one
abbrev pub reach : Bool → Bool → ℕ → ℤ → ℕ → Reach
reach keeps freed size offset k =
    reach_if (is_stray freed size offset k) (stray_reach (keeps && (not freed && is_aligned offset k)) (is_own size offset))

-- a displacement, or an offset, that lies outside -2^62 to 2^62
abbrev pub is_far : ℤ → Bool
is_far offset = nat_lt most_offset (unsigned_abs offset)

-- a stray access as it is told, before its effect; through null the object is 0 and the offset is the displacement
abbrev pub stray_event : ℕ → Act → ℕ → ℤ → ℕ → StrayEvent
stray_event line act object offset size = record { line = line; act = act; object = object; offset = offset; size = size }
