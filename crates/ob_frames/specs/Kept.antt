-- What holds between calls.
use Rattle.std.specs.Prelude.{◌≡◌, ℕ, ◌<◌, ◌≤◌, List, length}
use Rattle.std.specs.Global.{Vec}
use Rattle.std.specs.Vec.{vec_capacity}
use Rattle.ob_model.specs.Limits.{stack_bytes}
use Rattle.ob_flat.specs.Memory.{Memory}
use Rattle.ob_code.specs.declared.image.FunctionRow.{FunctionRow}
use Rattle.ob_code.specs.Frames.{allowances, function_at, next_base, top_base}
use Rattle.ob_code.specs.Layout.{static_blocks}
use Rattle.ob_code.specs.Limits.{most_statics, most_pointers}
use Rattle.ob_code.specs.Rules.{AreSound, IsFrameSound, IsPointerSound, IsStaticSound}
use Rattle.ob_statics.specs.Held.{StaticParts}
use Rattle.ob_frames.specs.declared.calls.Active.{Active}
use Rattle.ob_frames.specs.Calls.{AreStacked, calls_in}
use Rattle.ob_frames.specs.Framed.{Framed}
use Rattle.ob_frames.specs.Links.{AllHaveLinks}
use Rattle.ob_frames.specs.Writes.{HasStack}

abbrev pub framed_in : StaticParts → List FunctionRow → Memory → List Active → Framed
framed_in parts functions m active =
    record { statics = parts.statics; pointers = parts.pointers; functions = functions; memory = m; calls = calls_in m active }

-- rows keep the rules of images. Frames lie one behind another and have their link words, and the stack has room for the
-- allowances of the calls in progress, and so for their frames
pub record IsFramed (f : Framed) : Type 0 where
  pub statics : AreSound most_statics (length f.statics) (IsStaticSound f.statics)
  pub pointers : AreSound most_pointers (length f.pointers) (IsPointerSound f.statics f.pointers)
  pub rows : (i : ℕ) → i < length f.functions → IsFrameSound (function_at f.functions i)
  pub memory : HasStack f.memory
  pub static_bytes : f.memory.statics ≡ static_blocks f.statics
  pub stacked : AreStacked f.functions f.calls
  pub linked : AllHaveLinks f.memory f.calls
  pub room : allowances f.functions f.calls ≤ stack_bytes

-- `end` is where the next frame begins. Each call takes 16 bytes at least, so that 65,536 calls is most
pub record IsKept (f : Framed) (active : Vec Active) (taken end : ℕ) : Type 0 where
  pub framed : IsFramed f
  pub sum : taken ≡ allowances f.functions f.calls
  pub next : end ≡ next_base f.functions f.calls
  pub capacity : 65536 ≤ vec_capacity active

-- and `top` is where the innermost frame begins
pub record IsPlaced (f : Framed) (active : Vec Active) (taken end top : ℕ) : Type 0 where
  pub kept : IsKept f active taken end
  pub place : top ≡ top_base f.calls
