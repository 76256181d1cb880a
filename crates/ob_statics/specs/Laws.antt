-- Laws above the definitions.
use Rattle.std.specs.Prelude.{◌≡◌, ℕ, ◌+◌, ◌≤◌, List, [], length}
use Rattle.ob_model.specs.declared.settings.RunSettings.{RunSettings}
use Rattle.ob_model.specs.Limits.{most_heap_bytes, most_static_bytes, stack_bytes}
use Rattle.ob_flat.specs.Memory.{IsLaidOut, Memory, zeroed}
use Rattle.ob_code.specs.declared.image.PointerRow.{PointerRow}
use Rattle.ob_code.specs.declared.image.StaticRow.{StaticRow}
use Rattle.ob_code.specs.Layout.{static_blocks}
use Rattle.ob_code.specs.Start.{laid_out}
use Rattle.ob_code.specs.State.{Space}
use Rattle.ob_statics.specs.Contents.{static_memory, static_entries}

-- what the space before a run holds, with so many bytes of stack
abbrev pub first_space : ℕ → List StaticRow → List PointerRow → RunSettings → Space
first_space stack statics pointers settings =
    record {
      memory = static_memory statics pointers (zeroed (static_blocks statics) stack settings.heap);
      entries = static_entries statics;
      slots = [];
      blocks = [];
      outside = [];
      calls = [];
      next = length statics + 1;
    }

abbrev pub LaidOutIsStatic : Type 0
LaidOutIsStatic =
    (stack : ℕ) (statics : List StaticRow) (pointers : List PointerRow) (settings : RunSettings) →
    laid_out stack statics pointers settings ≡ first_space stack statics pointers settings

-- zero bytes are a memory
abbrev pub ZeroedIsLaidOut : Type 0
ZeroedIsLaidOut =
    (statics stack heap : ℕ) → statics ≤ most_static_bytes → stack ≤ stack_bytes → heap ≤ most_heap_bytes → IsLaidOut (zeroed statics stack heap)

-- laying out keeps the ranges
abbrev pub RangesAreKept : Type 0
RangesAreKept =
    (statics : List StaticRow) (pointers : List PointerRow) (m : Memory) →
    ((static_memory statics pointers m).statics ≡ m.statics)
    × ((static_memory statics pointers m).stack ≡ m.stack)
    × ((static_memory statics pointers m).heap ≡ m.heap)
