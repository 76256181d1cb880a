-- What a run keeps, and how its acts follow one another. An act ends the run or goes on with what it gives.
use Rattle.std.specs.Prelude.{ℕ, zero, suc, ◌==◌, not, Bool, List, [], ◌∷◌, ◌++◌, Option}
use Rattle.std.specs.List.{filter}
use Rattle.ob_model.specs.declared.endings.Ending.TheVariants.{Steps}
use Rattle.ob_model.specs.declared.strays.StrayEvent.{StrayEvent}
use Rattle.ob_model.specs.Bounded.{Listed, surviving_cells}
use Rattle.ob_model.specs.Descriptors.{Pair}
use Rattle.ob_model.specs.Endings.{Finish, plain}
use Rattle.ob_model.specs.Heap.{Allocated, surviving_blocks}
use Rattle.ob_model.specs.Objects.{freed, dead}
use Rattle.ob_meaning.specs.Memory.{Object, with_state}
use Rattle.ob_meaning.specs.Values.{Cell}

-- What becomes of stray accesses: they vanish (failure-oblivious computing: Rinard and others, OSDI 2004); or they reach granules
-- outside of the objects (boundless memory blocks: Rinard and others, ACSAC 2004), at most so many, the least recently used of
-- which are dropped; or all of them, and the run ends where one more than so many would be stored.
pub data Rule : Type 0 where
  vanish : Rule
  kept : (cap : ℕ) → Rule
  unlimited : (cap : ℕ) → Rule

-- a call in progress: its function, and the number of its first object
pub record Call : Type 0 where
  pub function : ℕ
  pub first : ℕ

-- What a run has made, has left and has done.
pub record World : Type 0 where
  pub objects : List Object
  -- The granules outside of live objects that a store has reached, each once at most; every other such granule has eight
  -- unset bytes. Under a bounded rule they are in order of use, the most recently used first.
  pub outside : List (Listed Cell)
  -- the blocks of the heap's live and freed objects, in order of their places
  pub heap : List Allocated
  -- the out-of-bounds pointers to live and freed objects that were made, each once
  pub out_of_bounds : List Pair
  -- how many events there were when a granule was first dropped, that store's own included
  pub first_drop : Option ℕ
  -- the place in the cycle of manufactured values
  pub cycle_place : ℕ
  pub input : List ℕ
  pub output : List ℕ
  pub events : List StrayEvent
  -- the calls in progress, the innermost first
  pub calls : List Call
  -- the steps left
  pub left : ℕ

-- the objects that a test names die: with them go their granules, blocks and out-of-bounds pointers
abbrev pub without : (ℕ → Bool) → World → World
without dies w =
    record w {
      objects = with_state dead dies 0 w.objects;
      outside = surviving_cells dies w.outside;
      heap = surviving_blocks dies w.heap;
      out_of_bounds = filter (λ pair. not (dies pair.0)) w.out_of_bounds;
    }

-- an object is freed and stays known: its granules outside go; its block and its out-of-bounds pointers stay
abbrev pub with_freed : ℕ → World → World
with_freed object w =
    record w {
      objects = with_state freed (λ other. other == object) 0 w.objects;
      outside = surviving_cells (λ other. other == object) w.outside;
    }

-- ---- acts one after another

pub data Run (A : Type 0) : Type 0 where
  stop : (finish : Finish) (w : World) → Run A
  go : (a : A) (w : World) → Run A

-- the world at which it ends or goes on
abbrev pub end_of : {A : Type 0} → Run A → World
end_of (stop finish w) = w
end_of (go a w) = w

abbrev pub bind : {A B : Type 0} → Run A → (A → World → Run B) → Run B
bind (stop finish w) k = stop finish w
bind (go a w) k = k a w

-- a step is taken, where one is left
abbrev pub take_step : {A : Type 0} → ℕ → World → (World → Run A) → Run A
take_step zero w k = stop (plain Steps) w
take_step (suc n) w k = k (record w { left = n })

abbrev pub step : {A : Type 0} → World → (World → Run A) → Run A
step w k = take_step w.left w k

-- ---- events

-- a stray access is told, before its effect
abbrev pub told : StrayEvent → World → World
told e w = record w { events = w.events ++ e ∷ [] }
