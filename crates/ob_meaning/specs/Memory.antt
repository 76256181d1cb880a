-- The memory of a program: objects (C99 6.2.4), each with its own granules of eight bytes. Objects are numbered in order of
-- making, from 1 on, and a number is never used again. No object has a place among others, so nothing lies beside it.
use Rattle.std.specs.Prelude.{ℕ, ◌+◌, Bool, true, false, ℤ, unsigned_abs, List, [], ◌∷◌, length, replicate, slice_index_or, slice_set}
use Rattle.ob_model.specs.declared.objects.Sort.{Sort}
use Rattle.ob_model.specs.declared.objects.Sort.TheVariants.{Static}
use Rattle.ob_model.specs.declared.values.Value.{Value}
use Rattle.ob_model.specs.declared.values.Value.TheVariants as value
use Rattle.ob_model.specs.Accesses.{own_granules}
use Rattle.ob_model.specs.Cells.{zeros}
use Rattle.ob_model.specs.Objects.{ObjectState, live, dead, is_dead_state}
use Rattle.ob_meaning.specs.Values.{Cell}

-- An object: its size in bytes, its storage duration, whether it is live, freed or dead, and its own granules from 0 on. The
-- bytes of the last one that lie past the size are there too.
pub record Object : Type 0 where
  pub size : ℕ
  pub sort : Sort
  pub state : ObjectState
  pub own : List Cell

-- a new object is zero bytes
abbrev pub new_object : Sort → ℕ → Object
new_object sort size = record { size = size; sort = sort; state = live; own = replicate (own_granules size) zeros }

-- what stands for an object of a number that none has
abbrev pub no_object : Object
no_object = record { size = 0; sort = Static; state = dead; own = [] }

-- the objects made so far stand in a list at their numbers; none has number 0
abbrev pub object_at : List Object → ℕ → Object
object_at objects object = slice_index_or objects object no_object

-- the number of the next object
abbrev pub next_number : List Object → ℕ
next_number objects = length objects

-- one of an object's own granules, and the objects with a cell there
abbrev pub own_cell : List Object → ℕ → ℤ → Cell
own_cell objects object granule = slice_index_or (object_at objects object).own (unsigned_abs granule) zeros

abbrev pub with_own : Object → ℤ → Cell → Object
with_own o granule cell = record o { own = slice_set o.own (unsigned_abs granule) cell }

abbrev pub with_own_cell : List Object → ℕ → ℤ → Cell → List Object
with_own_cell objects object granule cell = slice_set objects object (with_own (object_at objects object) granule cell)

-- all own granules of an object become zero bytes
abbrev pub wiped : Object → Object
wiped o = record o { own = replicate (own_granules o.size) zeros }

abbrev pub with_wiped : List Object → ℕ → List Object
with_wiped objects object = slice_set objects object (wiped (object_at objects object))

-- a pointer to a dead object (C99 6.2.4); one to a freed object that stays known is none
abbrev pub is_dead : List Object → Value → Bool
is_dead objects (value.Num n) = false
is_dead objects value.Null = false
is_dead objects (value.Ptr object offset) = is_dead_state (object_at objects object).state

-- the objects that a test names come into a state: they die, or one of them is freed; the list begins with the object of a number
abbrev pub changed_if : Bool → ObjectState → Object → Object
changed_if true state o = record o { state = state }
changed_if false state o = o

abbrev pub with_state : ObjectState → (ℕ → Bool) → ℕ → List Object → List Object
with_state state named n [] = []
with_state state named n (o ∷ os) = changed_if (named n) state o ∷ with_state state named (n + 1) os
