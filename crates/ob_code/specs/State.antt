-- The state of the flat machine, on lists. It has no tree, no list of free slots and no arena: the program may keep them.
use Rattle.std.specs.Prelude.{ℕ, ◌==◌, List, Bool}
use Rattle.ob_model.specs.declared.endings.Ending.{Ending}
use Rattle.ob_model.specs.declared.settings.RunSettings.{RunSettings}
use Rattle.ob_model.specs.declared.strays.StrayEvent.{StrayEvent}
use Rattle.ob_model.specs.Bounded.{Listed, surviving_cells}
use Rattle.ob_model.specs.Cells.{Content}
use Rattle.ob_model.specs.Descriptors.{Slots, surviving_pairs}
use Rattle.ob_model.specs.Endings.{InputEnd}
use Rattle.ob_model.specs.Entries.{Known, surviving_known, with_freed}
use Rattle.ob_model.specs.Heap.{Allocated, surviving_blocks}
use Rattle.ob_flat.specs.Memory.{Memory}
use Rattle.ob_code.specs.declared.image.Image.{Image}

-- a call in progress: its function, the place that it returns to, the address of its frame, and the number of its first object
pub record Call : Type 0 where
  pub function : ℕ
  pub link : ℕ
  pub base : ℕ
  pub first : ℕ

-- what memory holds: the bytes and marks of the three ranges, the live and freed objects in order of their bases, the slots of
-- out-of-bounds pointers, the heap's list, the bounded list of granules outside of objects, the calls in progress, the
-- innermost first, and the next object's number
pub record Space : Type 0 where
  pub memory : Memory
  pub entries : List Known
  pub slots : Slots
  pub blocks : List Allocated
  pub outside : List (Listed (Content ℕ))
  pub calls : List Call
  pub next : ℕ

-- a run: the memory, the place of the next instruction in the code, the steps left, the input left, the output and the stray
-- accesses so far, the place in the cycle of manufactured values, and how many instructions were begun
pub record State : Type 0 where
  pub space : Space
  pub counter : ℕ
  pub steps : ℕ
  pub input : List ℕ
  pub output : List ℕ
  pub events : List StrayEvent
  pub cycle_place : ℕ
  pub instructions : ℕ

-- what stays the same in a run
pub record Setup : Type 0 where
  pub image : Image
  pub settings : RunSettings
  pub cycle : List ℕ
  pub input_end : InputEnd

-- an instruction goes on to a state, or ends the run
pub data Next : Type 0 where
  goes : (s : State) → Next
  stops : (e : Ending) (s : State) → Next

-- a run that has ended
pub record Final : Type 0 where
  pub ending : Ending
  pub state : State

-- the objects that a test names die: their entries, slots, blocks and outside granules leave
abbrev pub after_death : (ℕ → Bool) → Space → Space
after_death dies s =
    record s {
      entries = surviving_known dies s.entries;
      slots = surviving_pairs dies s.slots;
      blocks = surviving_blocks dies s.blocks;
      outside = surviving_cells dies s.outside;
    }

-- an object is freed and stays known: its outside granules leave, while its slots and its block stay
abbrev pub after_freeing : ℕ → Space → Space
after_freeing object s =
    record s {
      entries = with_freed object s.entries;
      outside = surviving_cells (λ other. other == object) s.outside;
    }
