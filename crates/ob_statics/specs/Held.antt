-- What is kept of the static objects of an image, and what laying them out leaves as it was.
use Rattle.std.specs.Prelude.{◌≡◌, ℕ, ◌+◌, ◌≤◌, List, length, take, slice_index_or}
use Rattle.ob_model.specs.Limits.{statics_start}
use Rattle.ob_flat.specs.Memory.{Memory, IsLaidOut}
use Rattle.ob_code.specs.declared.image.PointerRow.{PointerRow}
use Rattle.ob_code.specs.declared.image.StaticRow.{StaticRow}
use Rattle.ob_code.specs.Layout.{static_blocks}
use Rattle.ob_code.specs.Limits.{most_statics, most_pointers}
use Rattle.ob_code.specs.Rules.{AreSound, IsStaticSound, IsPointerSound}

-- the static objects and the pointers that they hold
pub record StaticParts : Type 0 where
  pub statics : List StaticRow
  pub pointers : List PointerRow

-- where each object lies, and behind the last one where the next would
pub record AreBases (statics : List StaticRow) (bases : List ℕ) : Type 0 where
  pub count : length bases ≡ length statics + 1
  pub each : (i : ℕ) → i ≤ length statics → slice_index_or bases i 0 ≡ statics_start + static_blocks (take i statics)

pub record IsHeld (statics : List StaticRow) (pointers : List PointerRow) (bases : List ℕ) : Type 0 where
  pub sound : AreSound most_statics (length statics) (IsStaticSound statics)
  pub sound_pointers : AreSound most_pointers (length pointers) (IsPointerSound statics pointers)
  pub places : AreBases statics bases

-- the three ranges of memory are as long as they were
pub record KeepsRanges (old new : Memory) : Type 0 where
  pub statics : new.statics ≡ old.statics
  pub stack : new.stack ≡ old.stack
  pub heap : new.heap ≡ old.heap
  pub laid_out : IsLaidOut new
