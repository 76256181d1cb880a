-- What shows of a state: the static numbers and pointers that have names, the innermost call's function, and its numbers and
-- pointers, as the image's rows of names say. Reading them tells no event and takes no manufactured value.
use Rattle.std.specs.Prelude.{ℕ, ◌+◌, ◌==◌, List, [], ◌∷◌, Option, Some, None, if◌then◌else◌}
use Rattle.std.specs.List.{filter, filter_map}
use Rattle.std.specs.Option.{option_map}
use Rattle.ob_words.specs.Words.{number}
use Rattle.ob_model.specs.declared.values.LoadKind.{LoadKind}
use Rattle.ob_model.specs.declared.values.LoadKind.TheVariants.{Num, Ptr}
use Rattle.ob_model.specs.declared.values.Shown.{Shown}
use Rattle.ob_model.specs.declared.values.Shown.TheVariants as shown
use Rattle.ob_model.specs.Shown.{ShownVariable, ShownList}
use Rattle.ob_code.specs.declared.image.FunctionRow.{FunctionRow}
use Rattle.ob_code.specs.declared.image.Image.{Image}
use Rattle.ob_code.specs.declared.image.LocalRow.{LocalRow}
use Rattle.ob_code.specs.declared.image.NameRow.{NameRow}
use Rattle.ob_code.specs.declared.image.StaticRow.{StaticRow}
use Rattle.ob_code.specs.Accesses.{read_memory}
use Rattle.ob_code.specs.Frames.{top_base, frame_word, function_at}
use Rattle.ob_code.specs.Kinds.{load_kind_of}
use Rattle.ob_code.specs.Layout.{static_base, local_of}
use Rattle.ob_code.specs.State.{Call, Space}

-- how a word shows
abbrev pub shown_word : LoadKind → ℕ → Shown
shown_word (Num t) w = shown.Num (number t w)
shown_word Ptr w = if w == 0 then shown.Null else shown.Pointer

-- the word of a static object, and of a variable of the innermost call, whose function this is
abbrev pub static_word : List StaticRow → Space → NameRow → LoadKind → ℕ
static_word statics s row kind = read_memory kind s.memory (static_base statics row.ordinal)

abbrev pub local_word : Option LocalRow → Space → LoadKind → ℕ
local_word None s kind = 0
local_word (Some l) s kind = read_memory kind s.memory (top_base s.calls + l.place)

abbrev pub variable_word : FunctionRow → Space → NameRow → LoadKind → ℕ
variable_word f s row kind = if row.word == 0 then local_word (local_of f row.ordinal) s kind else frame_word s row.word

-- the rows of a holder that are numbers and pointers, each with its name and value
abbrev pub shown_row : (NameRow → LoadKind → ℕ) → NameRow → Option ShownVariable
shown_row word row =
    option_map (λ kind. record { name = row.name; value = shown_word kind (word row kind) }) (load_kind_of row.kind)

abbrev pub shown_rows : ℕ → (NameRow → LoadKind → ℕ) → List NameRow → List ShownVariable
shown_rows holder word rows = filter_map (shown_row word) (filter (λ row. row.holder == holder) rows)

-- the innermost call's function, and its variables; a function's rows have its number from 1
abbrev pub top_number : List Call → Option ℕ
top_number [] = None
top_number (c ∷ cs) = Some c.function

abbrev pub shown_variables : Image → Space → List Call → List ShownVariable
shown_variables image s [] = []
shown_variables image s (c ∷ cs) =
    shown_rows (c.function + 1) (variable_word (function_at image.functions c.function) s) image.names

abbrev pub flat_shown : Image → Space → ShownList
flat_shown image s =
    record {
      statics = shown_rows 0 (static_word image.statics s) image.names;
      function = top_number s.calls;
      variables = shown_variables image s s.calls;
    }
