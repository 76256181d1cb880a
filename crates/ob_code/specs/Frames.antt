-- Frames. A frame has so many words of 8 bytes, rounded up to whole blocks of 16 bytes, and then the blocks of its local
-- objects. Word 0 is the place that the call returns to and word 1 the base of the caller's frame; arguments come from word 2
-- on. The first frame lies at 2 ^ 24 and each next one at the end of the last.
use Rattle.std.specs.Prelude.{ℕ, zero, suc, ◌+◌, ◌-◌, ◌*◌, ◌/◌, Bool, max, nat_lt, List, [], ◌∷◌, length, Option, Some, None, slice_get, slice_index_or}
use Rattle.ob_words.specs.Words.{block}
use Rattle.ob_model.specs.declared.objects.Entry.{Entry}
use Rattle.ob_model.specs.declared.objects.Sort.TheVariants.{Automatic}
use Rattle.ob_model.specs.Entries.{Known, with_live}
use Rattle.ob_model.specs.Limits.{stack_bytes, stack_start}
use Rattle.ob_model.specs.Objects.{is_among}
use Rattle.ob_flat.specs.Memory.{field, with_field, with_zeros}
use Rattle.ob_code.specs.declared.image.FunctionRow.{FunctionRow}
use Rattle.ob_code.specs.declared.image.LocalRow.{LocalRow}
use Rattle.ob_code.specs.State.{Call, Space, after_death}

-- a function by its number
abbrev pub no_function : FunctionRow
no_function = record { entry = 0; params = 0; words = 0; vars = 0; allowance = 0; locals = [] }

abbrev pub function_at : List FunctionRow → ℕ → FunctionRow
function_at functions f = slice_index_or functions f no_function

-- where the words of a frame end, where its last local block ends, and where the frame does
abbrev pub words_end : ℕ → ℕ
words_end words = 16 * ((words + 1) / 2)

abbrev pub local_end : LocalRow → ℕ
local_end l = l.place + block l.size

abbrev pub end_of : Option LocalRow → ℕ
end_of None = 0
end_of (Some l) = local_end l

abbrev pub locals_end : List LocalRow → ℕ
locals_end ls = end_of (slice_get ls (length ls - 1))

abbrev pub frame_length : FunctionRow → ℕ
frame_length f = max (words_end f.words) (locals_end f.locals)

-- the base of the innermost call's frame, its function, and the base of the next frame
abbrev pub top_base : List Call → ℕ
top_base [] = 0
top_base (c ∷ cs) = c.base

abbrev pub top_function : List FunctionRow → List Call → FunctionRow
top_function functions [] = no_function
top_function functions (c ∷ cs) = function_at functions c.function

abbrev pub next_base : List FunctionRow → List Call → ℕ
next_base functions [] = stack_start
next_base functions (c ∷ cs) = c.base + frame_length (function_at functions c.function)

-- a word of the innermost call's frame
abbrev pub frame_word : Space → ℕ → ℕ
frame_word s i = field s.memory (top_base s.calls + 8 * i) 8

abbrev pub with_word : Space → ℕ → ℕ → Space
with_word s i w = record s { memory = with_field s.memory (top_base s.calls + 8 * i) 8 w }

-- words from one on, and the space with such words
abbrev pub words_from : Space → ℕ → ℕ → List ℕ
words_from s i zero = []
words_from s i (suc n) = frame_word s i ∷ words_from s (i + 1) n

abbrev pub with_words : Space → ℕ → List ℕ → Space
with_words s i [] = s
with_words s i (w ∷ ws) = with_words (with_word s i w) (i + 1) ws

-- a call would not fit: the allowances of the calls in progress and its own are more than the stack has
abbrev pub allowances : List FunctionRow → List Call → ℕ
allowances functions [] = 0
allowances functions (c ∷ cs) = (function_at functions c.function).allowance + allowances functions cs

abbrev pub is_full : List FunctionRow → ℕ → List Call → Bool
is_full functions f calls = nat_lt stack_bytes ((function_at functions f).allowance + allowances functions calls)

-- the objects of a call: each local row's has the number of its ordinal after the call's first
abbrev pub local_entry : ℕ → ℕ → LocalRow → Entry
local_entry base first l = record { base = base + l.place; size = l.size; object = first + l.ordinal; sort = Automatic }

abbrev pub with_locals : ℕ → ℕ → List LocalRow → List Known → List Known
with_locals base first [] entries = entries
with_locals base first (l ∷ ls) entries = with_locals base first ls (with_live (local_entry base first l) entries)

-- entering a function: its frame becomes zero bytes, then the two link words are written, then the objects are made
abbrev pub entered_at : FunctionRow → ℕ → ℕ → ℕ → Space → Space
entered_at row f link base s =
    record s {
      memory = with_field (with_field (with_zeros s.memory base (frame_length row)) base 8 link) (base + 8) 8 (top_base s.calls);
      entries = with_locals base s.next row.locals s.entries;
      calls = record { function = f; link = link; base = base; first = s.next } ∷ s.calls;
      next = s.next + row.vars;
    }

abbrev pub entered : List FunctionRow → ℕ → ℕ → Space → Space
entered functions f link s = entered_at (function_at functions f) f link (next_base functions s.calls) s

-- leaving the innermost call: its objects die
abbrev pub left_call : List FunctionRow → Call → List Call → Space → Space
left_call functions c cs s = record (after_death (is_among c.first (function_at functions c.function).vars) s) { calls = cs }
