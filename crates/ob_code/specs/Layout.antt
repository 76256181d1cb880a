-- Where static and local objects lie. Static objects lie from address 4096 on, each at the end of the block before it.
use Rattle.std.specs.Prelude.{ℕ, ◌+◌, ◌-◌, ◌*◌, ◌==◌, List, [], ◌∷◌, take, Option, slice_index_or}
use Rattle.std.specs.List.{find}
use Rattle.ob_words.specs.Words.{block}
use Rattle.ob_model.specs.Accesses.{own_granules}
use Rattle.ob_model.specs.Limits.{statics_start}
use Rattle.ob_flat.specs.Memory.{with_zeros}
use Rattle.ob_code.specs.declared.image.FunctionRow.{FunctionRow}
use Rattle.ob_code.specs.declared.image.LocalRow.{LocalRow}
use Rattle.ob_code.specs.declared.image.StaticRow.{StaticRow}
use Rattle.ob_code.specs.Frames.{top_base, top_function}
use Rattle.ob_code.specs.State.{Space}

-- the bytes of the blocks, and the base of a static object, numbered from 1
abbrev pub static_blocks : List StaticRow → ℕ
static_blocks [] = 0
static_blocks (r ∷ rs) = block r.size + static_blocks rs

abbrev pub static_base : List StaticRow → ℕ → ℕ
static_base rows object = statics_start + static_blocks (take (object - 1) rows)

-- the local row of a variable of a function, by its ordinal
abbrev pub local_of : FunctionRow → ℕ → Option LocalRow
local_of f ordinal = find (λ l. l.ordinal == ordinal) f.locals

-- the base of a local object of the innermost call
abbrev pub no_local : LocalRow
no_local = record { ordinal = 0; place = 0; size = 0 }

abbrev pub local_at : List FunctionRow → Space → ℕ → LocalRow
local_at functions s i = slice_index_or (top_function functions s.calls).locals i no_local

abbrev pub local_base : List FunctionRow → Space → ℕ → ℕ
local_base functions s i = top_base s.calls + (local_at functions s i).place

-- its own granules become zero bytes
abbrev pub wiped : List FunctionRow → ℕ → Space → Space
wiped functions i s =
    record s { memory = with_zeros s.memory (local_base functions s i) (8 * own_granules (local_at functions s i).size) }
