-- What an instruction does to a run in progress.
use Rattle.std.specs.Prelude.{◌≡◌, ℕ, ◌+◌, ◌*◌, ◌^◌, ◌≤◌, ◌<◌, List, length, slice_get, Some}
use Rattle.ob_model.specs.Endings.{InputEnd}
use Rattle.ob_code.specs.declared.image.Image.{Image}
use Rattle.ob_code.specs.declared.instructions.Instr.TheVariants.{Load, Store, Free, GetChar, PutChar}
use Rattle.ob_code.specs.Frames.{function_at}
use Rattle.ob_code.specs.Machine.{act_on}
use Rattle.ob_code.specs.Rules.{IsWritten}
use Rattle.ob_space.specs.Loaded.{top_words}
use Rattle.ob_machine.specs.declared.act.Effect.{Effect}
use Rattle.ob_machine.specs.declared.act.Effect.TheVariants.{Done, Reads, Writes, Loads, Stores, Frees}
use Rattle.ob_machine.specs.declared.execution.Execution.{Execution}
use Rattle.ob_machine.specs.Executions.{Beside, Is, setup, state_of}
use Rattle.ob_machine.specs.Progress.{IsPlaced}

-- a run of the image can go on: its memory was laid out for the image, its next instruction is one of the innermost call's
-- function, and the numbers of objects stay small, since a call makes 524,288 at most
pub record IsReady (image : Image) (e : Execution) : Type 0 where
  pub rows : e.space.functions ≡ image.functions
  pub statics : e.space.statics ≡ image.statics
  pub placed : IsPlaced image e.space.space.calls e.counter
  pub numbered : e.space.space.next + 524288 * e.steps < 2 ^ 62

-- so many words are enough for the arguments of each function
abbrev pub HasRoom : Image → ℕ → Type 0
HasRoom image room = (f : ℕ) → f < length image.functions → (function_at image.functions f).params ≤ room

-- the next instruction was done; or it needs a device, to read a byte into word a, or to write word b; or a maker or watchers, for a
-- checked access through word b, displaced by word c, or to free what word b points to
abbrev pub HasEffect : Image → Execution → Execution → Effect → Type 0
HasEffect image e f (Done answer) =
    (cycle : List ℕ) (input_end : InputEnd) (r : Beside) →
    Is answer (act_on (setup image e.space.settings cycle input_end) (slice_get image.code e.counter) (state_of e r)) f r
HasEffect image e f (Reads a) =
    (f ≡ e) × (slice_get image.code e.counter ≡ Some (GetChar a)) × IsWritten (top_words e.space) a
HasEffect image e f (Writes a b) =
    (f ≡ e) × (slice_get image.code e.counter ≡ Some (PutChar a b)) × IsWritten (top_words e.space) a × (b < top_words e.space)
HasEffect image e f (Loads kind line a b c) =
    (f ≡ e) × (slice_get image.code e.counter ≡ Some (Load kind line a b c)) × IsWritten (top_words e.space) a × (b < top_words e.space) × (c < top_words e.space)
HasEffect image e f (Stores kind line a b c) =
    (f ≡ e) × (slice_get image.code e.counter ≡ Some (Store kind line a b c)) × (a < top_words e.space) × (b < top_words e.space) × (c < top_words e.space)
HasEffect image e f (Frees line b) =
    (f ≡ e) × (slice_get image.code e.counter ≡ Some (Free line b)) × (b < top_words e.space)
