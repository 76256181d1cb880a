-- The reader of words on plain data: what the code does, word by word. It serves the proof alone; that it agrees with `Lines` is
-- proved.
use Rattle.std.specs.Prelude.{ℕ, ◌+◌, true, false, ◌==◌, List, [], ◌∷◌, codes, Option, Some, None, if◌then◌else◌}
use Rattle.std.specs.Option.{option_and_then, option_map}
use Rattle.std.specs.Str.{bytes_eq}
use Rattle.ob_settings.specs.Lines.{is_plain, two_dashes}
use Rattle.ob_settings.specs.Options.{no_choices, where_had, with_value, without_value, is_report}
use Rattle.ob_settings.specs.declared.choices.Choices.{Choices}
use Rattle.ob_settings.specs.declared.option.Setting.{Setting}
use Rattle.ob_settings.specs.declared.option.Setting.TheVariants as setting
use Rattle.ob_settings.specs.declared.reader.Reader.{Reader}
use Rattle.ob_settings.specs.declared.reader.Step.{Step}
use Rattle.ob_settings.specs.declared.verb.Verb.{Verb}
use Rattle.ob_settings.specs.declared.verb.Verb.TheVariants as verb

-- ---- names

abbrev pub verb_named : List ℕ → Option Verb
verb_named word =
    if bytes_eq word (codes "run") then Some verb.Run
    else if bytes_eq word (codes "compile") then Some verb.Compile
    else if bytes_eq word (codes "exec") then Some verb.Exec
    else if bytes_eq word (codes "check") then Some verb.Check
    else if bytes_eq word (codes "audit") then Some verb.Audit
    else if bytes_eq word (codes "sample") then Some verb.Sample
    else if bytes_eq word (codes "migrate") then Some verb.Migrate
    else None

abbrev pub setting_named : List ℕ → Option Setting
setting_named name =
    if bytes_eq name (codes "--mode") then Some setting.Mode
    else if bytes_eq name (codes "--steps") then Some setting.Steps
    else if bytes_eq name (codes "--store") then Some setting.Store
    else if bytes_eq name (codes "--away") then Some setting.Away
    else if bytes_eq name (codes "--heap") then Some setting.Heap
    else if bytes_eq name (codes "--maker") then Some setting.Maker
    else if bytes_eq name (codes "--profile") then Some setting.Profile
    else if bytes_eq name (codes "--report") then Some setting.Report
    else None

-- ---- words

-- a word around its first `=`
pub record Split : Type 0 where
  pub name : List ℕ
  pub value : List ℕ

abbrev pub behind : ℕ → Split → Split
behind byte s = record { name = byte ∷ s.name; value = s.value }

abbrev pub split_word : List ℕ → Option Split
split_word [] = None
split_word (byte ∷ word) = if byte == 61 then Some (record { name = []; value = word }) else option_map (behind byte) (split_word word)

-- what a word is by itself: an option that waits for its value in the next word, a complete one, an argument, the end of the
-- options, or none of these
pub data Kind : Type 0 where
  ends : Kind
  argument : Kind
  waits : (setting : Setting) → Kind
  flag : (setting : Setting) → Kind
  valued : (setting : Setting) (value : List ℕ) → Kind
  unknown : Kind

abbrev pub flag_or_waits : Setting → Kind
flag_or_waits s = if is_report s then flag s else waits s

abbrev pub named_kind : Option Setting → Kind
named_kind None = unknown
named_kind (Some s) = flag_or_waits s

abbrev pub valued_kind : List ℕ → Option Setting → Kind
valued_kind value None = unknown
valued_kind value (Some s) = valued s value

abbrev pub option_kind : List ℕ → Option Split → Kind
option_kind word None = named_kind (setting_named word)
option_kind word (Some s) = valued_kind s.value (setting_named s.name)

abbrev pub word_kind : List ℕ → Kind
word_kind word = if bytes_eq word two_dashes then ends else if is_plain word then argument else option_kind word (split_word word)

-- ---- the reader

abbrev pub nothing_read : Reader
nothing_read = record { choices = no_choices; place = None }

-- a reader that took a word, or two
abbrev pub taking_one : Reader → Step
taking_one r = record { reader = r; took_two = false }

abbrev pub taking_two : Reader → Step
taking_two r = record { reader = r; took_two = true }

abbrev pub with_choices : Reader → Choices → Reader
with_choices r c = record r { choices = c }

abbrev pub choosing : Reader → Option Choices → Option Reader
choosing r choices = option_map (with_choices r) choices

-- the argument stands at a place, where none stood before
abbrev pub placed : ℕ → Reader → Option ℕ → Option Reader
placed at r None = Some (record r { place = Some at })
placed at r (Some before) = None

abbrev pub with_argument : ℕ → Reader → Option Reader
with_argument at r = placed at r r.place

-- behind the end of the options there is nothing, or the argument alone
abbrev pub after_end : ℕ → Reader → List (List ℕ) → Option Step
after_end at r [] = Some (taking_one r)
after_end at r (word ∷ []) = option_map taking_two (with_argument (at + 1) r)
after_end at r (word ∷ next ∷ words) = None

abbrev pub after_value : Verb → Setting → Reader → List (List ℕ) → Option Step
after_value verb s r [] = None
after_value verb s r (value ∷ words) = option_map taking_two (choosing r (where_had verb s (with_value s value r.choices)))

-- a word, with what stands behind it
abbrev pub step_by : Verb → ℕ → Reader → List (List ℕ) → Kind → Option Step
step_by verb at r behind ends = after_end at r behind
step_by verb at r behind argument = option_map taking_one (with_argument at r)
step_by verb at r behind (waits s) = after_value verb s r behind
step_by verb at r behind (flag s) = option_map taking_one (choosing r (where_had verb s (without_value s r.choices)))
step_by verb at r behind (valued s value) = option_map taking_one (choosing r (where_had verb s (with_value s value r.choices)))
step_by verb at r behind unknown = None

abbrev pub step : Verb → ℕ → Reader → List ℕ → List (List ℕ) → Option Step
step verb at r word behind = step_by verb at r behind (word_kind word)

abbrev pub reader_of : Step → Reader
reader_of s = s.reader

abbrev pub goes_on : (one two : Reader → Option Reader) → Step → Option Reader
goes_on one two s = if s.took_two then two s.reader else one s.reader

-- all words from a place on
abbrev pub reads : Verb → ℕ → Reader → List (List ℕ) → Option Reader
reads verb at r [] = Some r
reads verb at r (word ∷ []) = option_map reader_of (step verb at r word [])
reads verb at r (word ∷ next ∷ words) =
    option_and_then (goes_on (λ one. reads verb (at + 1) one (next ∷ words)) (λ two. reads verb (at + 2) two words)) (step verb at r word (next ∷ words))
