-- The objects of the heap (C99 7.20.3). A block of the heap lies at 2 ^ 25 plus its place.
use Rattle.std.specs.Prelude.{ℕ, ◌+◌, ◌==◌, Bool, true, false, ℤ, Option, Some, None}
use Rattle.ob_words.specs.Words.{block}
use Rattle.ob_model.specs.declared.objects.Sort.TheVariants.{Heap}
use Rattle.ob_model.specs.declared.settings.Profile.{Profile}
use Rattle.ob_model.specs.declared.settings.Profile.TheVariants.{One, Two}
use Rattle.ob_model.specs.declared.strays.Act.TheVariants as act
use Rattle.ob_model.specs.declared.strays.StrayEvent.{StrayEvent}
use Rattle.ob_model.specs.Accesses.{stray_event}
use Rattle.ob_model.specs.Entries.{with_live}
use Rattle.ob_model.specs.Heap.{with_object}
use Rattle.ob_model.specs.Limits.{heap_start}
use Rattle.ob_model.specs.Objects.{frees}
use Rattle.ob_flat.specs.Memory.{with_zeros}
use Rattle.ob_code.specs.State.{Space, after_death, after_freeing}
use Rattle.ob_code.specs.Pointers.{Target, nothing, into}

-- the address of a new object of n bytes, which are zero bytes, or 0 where no place fits
abbrev pub allocated_at : Option ℕ → ℕ → Space → Space
allocated_at None n s = s
allocated_at (Some place) n s =
    record s {
      memory = with_zeros s.memory (heap_start + place) (block n);
      entries = with_live (record { base = heap_start + place; size = n; object = s.next; sort = Heap }) s.entries;
      blocks = with_object s.next place n s.blocks;
      next = s.next + 1;
    }

abbrev pub place_word : Option ℕ → ℕ
place_word None = 0
place_word (Some place) = heap_start + place

-- what `free` does with what a word names: nothing through null; a live heap object's own pointer frees it; any other pointer
-- to a live or freed object goes astray
pub data Freeing : Type 0 where
  no_effect : Freeing
  own : (object : ℕ) → Freeing
  stray : (object : ℕ) (offset : ℤ) → Freeing

abbrev pub freeing_if : Bool → ℕ → ℤ → Freeing
freeing_if true object offset = own object
freeing_if false object offset = stray object offset

abbrev pub freeing : Target → Freeing
freeing nothing = no_effect
freeing (into k offset) = freeing_if (frees k.freed k.entry.sort offset) k.entry.object offset

-- the event of a stray `free`, which has size 0
abbrev pub free_event : Freeing → ℕ → Option StrayEvent
free_event no_effect line = None
free_event (own object) line = None
free_event (stray object offset) line = Some (stray_event line act.Free object offset 0)

-- a freed object dies under the first profile, and stays known under the second
abbrev pub once_freed : Profile → ℕ → Space → Space
once_freed One object s = after_death (λ other. other == object) s
once_freed Two object s = after_freeing object s

abbrev pub space_after_free : Profile → Freeing → Space → Space
space_after_free profile no_effect s = s
space_after_free profile (own object) s = once_freed profile object s
space_after_free profile (stray object offset) s = s
