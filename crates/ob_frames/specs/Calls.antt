-- The calls in progress as a space keeps them: in the order in which they were entered, each without the place that it
-- returns to, which is word 0 of its frame.
use Rattle.std.specs.Prelude.{◌≡◌, ◌<◌, List, [], ◌∷◌, length, map, reverse}
use Rattle.ob_flat.specs.Memory.{Memory, field}
use Rattle.ob_code.specs.declared.image.FunctionRow.{FunctionRow}
use Rattle.ob_code.specs.Frames.{next_base}
use Rattle.ob_code.specs.State.{Call}
use Rattle.ob_frames.specs.declared.calls.Active.{Active}

abbrev pub call_in : Memory → Active → Call
call_in m a = record { function = a.function; link = field m a.base 8; base = a.base; first = a.first }

-- the innermost call first
abbrev pub calls_in : Memory → List Active → List Call
calls_in m active = map (call_in m) (reverse active)

-- frames lie one behind another, the first at the start of the stack
abbrev pub AreStacked : List FunctionRow → List Call → Type 0
AreStacked functions [] = Unit {0}
AreStacked functions (c ∷ cs) =
    (c.function < length functions) × (c.base ≡ next_base functions cs) × AreStacked functions cs
