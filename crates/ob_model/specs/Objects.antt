-- The life of an object (C99 6.2.4 and 7.20.3). An object lives from its making on. An automatic object dies when its call
-- returns. A heap object that is freed dies as well, or it stays known as a freed object: then each access through its pointer
-- goes astray, while its pointers may still be moved and compared, and its block is not given to another object.
use Rattle.std.specs.Prelude.{ℕ, ◌+◌, Bool, true, false, ◌&&◌, not, nat_le, nat_lt, ℤ, pos}
use Rattle.std.specs.Ordering.{int_eq}
use Rattle.ob_model.specs.declared.objects.Sort.{Sort}
use Rattle.ob_model.specs.declared.objects.Sort.TheVariants.{Static, Automatic, Heap}
use Rattle.ob_model.specs.declared.settings.Profile.{Profile}
use Rattle.ob_model.specs.declared.settings.Profile.TheVariants.{One, Two}

pub data ObjectState : Type 0 where
  live : ObjectState
  freed : ObjectState
  dead : ObjectState

abbrev pub is_freed : ObjectState → Bool
is_freed live = false
is_freed freed = true
is_freed dead = false

abbrev pub is_dead_state : ObjectState → Bool
is_dead_state live = false
is_dead_state freed = false
is_dead_state dead = true

abbrev pub is_heap : Sort → Bool
is_heap Static = false
is_heap Automatic = false
is_heap Heap = true

-- whether `free` of a pointer to this offset frees its object, which is live or freed: the pointer is to the first byte of a
-- live heap object; any other pointer makes an event, and nothing else happens
abbrev pub frees : Bool → Sort → ℤ → Bool
frees is_freed_already sort offset = not is_freed_already && (is_heap sort && int_eq offset (pos 0))

-- whether a freed object stays known, and what becomes of an object that is freed
abbrev pub keeps_freed : Profile → Bool
keeps_freed One = false
keeps_freed Two = true

abbrev pub state_once_freed : Profile → ObjectState
state_once_freed One = dead
state_once_freed Two = freed

-- a number among so many from a first one on, such as those of the objects of one call
abbrev pub is_among : ℕ → ℕ → ℕ → Bool
is_among first count object = nat_le first object && nat_lt object (first + count)
