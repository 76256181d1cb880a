-- The commands, and the table of their options: name, values, default, and the commands that have it.
--
--   --mode      oblivious, boundless     oblivious    run, exec, audit, sample
--   --steps     0 to 1,000,000,000       10,000,000   run, exec, audit, sample
--   --store     1 to 1,048,576           65,536       run, exec, audit, sample
--   --away      0 to 1,048,576           65,536       run, exec, audit, sample
--   --heap      0 to 67,108,864          4,194,304    run, exec, audit, sample
--   --maker     small, zero, count       small        run, exec, audit, sample
--   --profile   1, 2                     not given    run, compile, exec, audit, sample
--   --report    no value                 off          run, exec
use Rattle.std.specs.Prelude.{ℕ, Bool, true, false, not, List, codes, Option, Some, None, if◌then◌else◌}
use Rattle.std.specs.Option.{option_map}
use Rattle.std.specs.Str.{bytes_eq}
use Rattle.ob_model.specs.Limits.{most_away_pointers, most_heap_bytes, most_outside_granules}
use Rattle.ob_model.specs.declared.settings.Mode.{Mode}
use Rattle.ob_model.specs.declared.settings.Mode.TheVariants.{Oblivious, Boundless}
use Rattle.ob_settings.specs.Numbers.{number_between}
use Rattle.ob_settings.specs.declared.choices.Choices.{Choices}
use Rattle.ob_settings.specs.declared.option.Setting.{Setting}
use Rattle.ob_settings.specs.declared.option.Setting.TheVariants as setting
use Rattle.ob_settings.specs.declared.verb.Verb.{Verb}
use Rattle.ob_settings.specs.declared.verb.Verb.TheVariants as verb

-- ---- commands

abbrev pub verb_name : Verb → List ℕ
verb_name verb.Run = codes "run"
verb_name verb.Compile = codes "compile"
verb_name verb.Exec = codes "exec"
verb_name verb.Check = codes "check"
verb_name verb.Audit = codes "audit"
verb_name verb.Sample = codes "sample"
verb_name verb.Migrate = codes "migrate"

-- ---- names and commands of the options

abbrev pub setting_name : Setting → List ℕ
setting_name setting.Mode = codes "--mode"
setting_name setting.Steps = codes "--steps"
setting_name setting.Store = codes "--store"
setting_name setting.Away = codes "--away"
setting_name setting.Heap = codes "--heap"
setting_name setting.Maker = codes "--maker"
setting_name setting.Profile = codes "--profile"
setting_name setting.Report = codes "--report"

-- the two options that not every command with options has
abbrev pub is_profile : Setting → Bool
is_profile setting.Profile = true
is_profile _ = false

abbrev pub is_report : Setting → Bool
is_report setting.Report = true
is_report _ = false

abbrev pub has : Verb → Setting → Bool
has verb.Run option = true
has verb.Exec option = true
has verb.Audit option = not (is_report option)
has verb.Sample option = not (is_report option)
has verb.Compile option = is_profile option
has verb.Check option = false
has verb.Migrate option = false

-- ---- values

abbrev pub mode_named : List ℕ → Option Mode
mode_named word = if bytes_eq word (codes "oblivious") then Some Oblivious else if bytes_eq word (codes "boundless") then Some Boundless else None

-- a maker by its place in the list of makers
abbrev pub maker_named : List ℕ → Option ℕ
maker_named word =
    if bytes_eq word (codes "small") then Some 0 else if bytes_eq word (codes "zero") then Some 1 else if bytes_eq word (codes "count") then Some 2 else None

abbrev pub profile_named : List ℕ → Option ℕ
profile_named word = if bytes_eq word (codes "1") then Some 1 else if bytes_eq word (codes "2") then Some 2 else None

abbrev pub most_steps : ℕ
most_steps = 1000000000

-- ---- what the options of a line choose

abbrev pub no_choices : Choices
no_choices = record { mode = None; steps = None; store = None; away = None; heap = None; maker = None; profile = None; report = false }

-- an option stands at most once: a second one chooses nothing
abbrev pub first_choice : {A : Type 0} → Option A → Option A → Option A
first_choice None value = value
first_choice (Some before) value = None

-- the choices with one more, by an option with a value; none where the option has no such value, or stands there already
abbrev pub with_value : Setting → List ℕ → Choices → Option Choices
with_value setting.Mode word c = option_map (λ value. record c { mode = Some value }) (first_choice c.mode (mode_named word))
with_value setting.Steps word c = option_map (λ value. record c { steps = Some value }) (first_choice c.steps (number_between 0 most_steps word))
with_value setting.Store word c = option_map (λ value. record c { store = Some value }) (first_choice c.store (number_between 1 most_outside_granules word))
with_value setting.Away word c = option_map (λ value. record c { away = Some value }) (first_choice c.away (number_between 0 most_away_pointers word))
with_value setting.Heap word c = option_map (λ value. record c { heap = Some value }) (first_choice c.heap (number_between 0 most_heap_bytes word))
with_value setting.Maker word c = option_map (λ value. record c { maker = Some value }) (first_choice c.maker (maker_named word))
with_value setting.Profile word c = option_map (λ value. record c { profile = Some value }) (first_choice c.profile (profile_named word))
with_value setting.Report word c = None

-- the same by an option without a value
abbrev pub without_value : Setting → Choices → Option Choices
without_value setting.Report c = if c.report then None else Some (record c { report = true })
without_value _ c = None

-- where the command has the option
abbrev pub where_had : Verb → Setting → Option Choices → Option Choices
where_had verb option choices = if has verb option then choices else None
