-- Leaving a call, over the spaces of the machine's definition.
use Rattle.std.specs.Prelude.{ℕ, List, [], ◌∷◌, Option, Some, None}
use Rattle.ob_code.specs.declared.image.FunctionRow.{FunctionRow}
use Rattle.ob_code.specs.Frames.{left_call}
use Rattle.ob_code.specs.State.{Call, Space}

-- the place that the innermost call returns to
abbrev pub top_link : List Call → Option ℕ
top_link [] = None
top_link (c ∷ cs) = Some c.link

-- the space once that call is left
abbrev pub left_top : List FunctionRow → List Call → Space → Space
left_top functions [] s = s
left_top functions (c ∷ cs) s = left_call functions c cs s
