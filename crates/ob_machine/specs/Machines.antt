-- A machine with an image, and what a run of it gives. The run is that of the flat machine's definition, on lists, for the
-- machine's image and settings.
use Rattle.std.specs.Prelude.{◌≡◌, ◌≢◌, ℕ, ◌+◌, ◌≤◌, ◌<◌, ◌==◌, Bool, true, false, List, [], ◌∷◌, ◌++◌, length, map, Option, None, if◌then◌else◌}
use Rattle.std.specs.Io.KnownBytes.{append_known}
use Rattle.std.specs.List.{Contains}
use Rattle.std.specs.Option.{option_map}
use Rattle.ob_base.specs.Devices.{Reading, Writing, IsWhole, IsWritten, IsCutOff}
use Rattle.ob_base.specs.Sink.{tally_known}
use Rattle.ob_model.specs.declared.endings.Ending.{Ending}
use Rattle.ob_model.specs.declared.endings.Ending.TheVariants.{ReadFault, WriteFault, NoMemory}
use Rattle.ob_model.specs.declared.settings.Mode.TheVariants.{Boundless}
use Rattle.ob_model.specs.declared.settings.RunSettings.{RunSettings}
use Rattle.ob_model.specs.declared.strays.Act.TheVariants.{Store}
use Rattle.ob_model.specs.declared.strays.StrayEvent.{StrayEvent}
use Rattle.ob_model.specs.declared.values.LoadKind.{LoadKind}
use Rattle.ob_model.specs.declared.values.Shown.{Shown}
use Rattle.ob_model.specs.Endings.{Begins, InputEnd, closed, failed}
use Rattle.ob_model.specs.Limits.{stack_bytes}
use Rattle.ob_code.specs.declared.image.FunctionRow.{FunctionRow}
use Rattle.ob_code.specs.declared.image.Image.{Image}
use Rattle.ob_code.specs.declared.image.NameRow.{NameRow}
use Rattle.ob_code.specs.Frames.{function_at}
use Rattle.ob_code.specs.Kinds.{load_kind_of}
use Rattle.ob_code.specs.Shown.{shown_word, static_word, variable_word}
use Rattle.ob_code.specs.Start.{flat_final, laid_out}
use Rattle.ob_code.specs.State.{Call, Final, Space}
use Rattle.ob_watch.specs.Watching.{Watch, after_events}
use Rattle.ob_machine.specs.Devices.{IsInput, IsPartlySent}

-- its image and settings, what its memory holds, whether nothing was run since it was loaded or reset, and how many
-- instructions its last run did
pub record MachineState : Type 0 where
  pub image : Image
  pub settings : RunSettings
  pub space : Space
  pub is_fresh : Bool
  pub instructions : ℕ

-- before a run: the static objects are laid out, and no call is in progress
abbrev pub loaded : Image → RunSettings → MachineState
loaded image settings =
    record {
      image = image;
      settings = settings;
      space = laid_out stack_bytes image.statics image.pointers settings;
      is_fresh = true;
      instructions = 0;
    }

-- after a run that left the memory so and did so many instructions
abbrev pub used : MachineState → Space → ℕ → MachineState
used m space instructions = record m { space = space; is_fresh = false; instructions = instructions }

-- a maker and the watchers before and after a run: the cycle of manufactured values, the places in it, and what was seen
pub record Hearing : Type 0 where
  pub cycle : List ℕ
  pub place_before : ℕ
  pub place_now : ℕ
  pub seen_before : List Watch
  pub seen_now : List Watch

-- the definition's run to its end: its ending, its whole output, its events, its place in the cycle, its memory and its number of
-- instructions
pub record IsDone (final : Final) (m after : MachineState) (e : Ending) (w : Writing) (h : Hearing) : Type 0 where
  pub ending : e ≡ final.ending
  pub output : IsWritten w final.state.output
  pub place : h.place_now ≡ final.state.cycle_place
  pub events : h.seen_now ≡ map (after_events final.state.events) h.seen_before
  pub machine : after ≡ used m final.state.space final.state.instructions

-- what was told is a prefix of the run's events, and the place is one of the cycle
pub record IsPartlyTold (events : List StrayEvent) (h : Hearing) : Type 0 where
  pub told : List StrayEvent
  pub begins : Begins told events
  pub seen : h.seen_now ≡ map (after_events told) h.seen_before
  pub place : h.place_now < length h.cycle

-- a write failed before the definition's run came to its end; memory is left as it was then
pub record IsBrokenOff (final : Final) (m after : MachineState) (e : Ending) (w : Writing) (h : Hearing) : Type 0 where
  pub ending : e ≡ WriteFault
  pub output : IsCutOff w final.state.output
  pub told : IsPartlyTold final.state.events h
  pub machine : after ≡ used m after.space after.instructions
  pub instructions : after.instructions ≤ final.state.instructions

-- an event of a store is among those of a run
abbrev pub HasStore : List StrayEvent → Type 0
HasStore events = (e : StrayEvent) × Contains events e × (e.act ≡ Store)

-- there was no memory for a granule outside of an object, which only boundless mode needs, at a store that is told; the sink has taken
-- a prefix of the output, and didn't fail
pub record IsStarved (final : Final) (m after : MachineState) (e : Ending) (w : Writing) (h : Hearing) : Type 0 where
  pub ending : e ≡ NoMemory
  pub boundless : m.settings.mode ≡ Boundless
  pub store : HasStore final.state.events
  pub output : IsPartlySent w final.state.output
  pub told : IsPartlyTold final.state.events h
  pub machine : after ≡ used m after.space after.instructions
  pub instructions : after.instructions ≤ final.state.instructions

-- what a run comes to, against the definition's
pub data ComesTo (final : Final) (m after : MachineState) (e : Ending) (w : Writing) (h : Hearing) : Type 0 where
  done : (is : IsDone final m after e w h) → ComesTo final m after e w h
  broken : (is : IsBrokenOff final m after e w h) → ComesTo final m after e w h
  starved : (is : IsStarved final m after e w h) → ComesTo final m after e w h

-- a run on what a source gave
pub record Runs (m after : MachineState) (steps : ℕ) (e : Ending) (r : Reading) (w : Writing) (h : Hearing) : Type 0 where
  pub input : List ℕ
  pub input_end : InputEnd
  pub is_input : IsInput r input input_end
  pub comes_to : ComesTo (flat_final m.image m.settings h.cycle h.place_before input input_end steps) m after e w h

-- on an input that fails at its end the run comes to that end, and all that it writes until then was sent
pub record IsWaiting (final : Final) (sent : List ℕ) : Type 0 where
  pub ending : final.ending ≡ ReadFault
  pub output : Begins final.state.output sent

-- output is sent before each read, as a run shows whose sink failed. No read failed. `last` is what the last read gave that
-- gave bytes: on the bytes before these the program waits for more, and the sink took all its output until then before it failed.
pub record IsFlushedBeforeReads (final : List ℕ → InputEnd → Final) (r : Reading) (w : Writing) : Type 0 where
  pub input : List ℕ
  pub whole : IsWhole r input
  pub before : List ℕ
  pub last : List ℕ
  pub read : whole.read ≡ before ++ last
  pub few : length last ≤ 4096
  pub none : last ≡ [] → before ≡ []
  pub sent : List ℕ
  pub took : w.taken_now ≡ append_known w.taken_before sent
  pub tallied : w.tally_now ≡ tally_known w.tally_before sent
  pub output : Begins sent (final input closed).state.output
  pub waiting : last ≢ [] → IsWaiting (final before failed) sent

-- for the run of a machine that ended so
abbrev pub Flushes : MachineState → ℕ → Ending → Reading → Writing → Hearing → Type 0
Flushes m steps e r w h =
    e ≡ WriteFault →
    IsFlushedBeforeReads (λ input input_end. flat_final m.image m.settings h.cycle h.place_before input input_end steps) r w

-- ---- what shows

-- what a row of names shows, of the variables that show: none where its holder is a function that isn't the innermost call's, or where
-- it is an array or a structure
abbrev pub shown_by : (NameRow → LoadKind → ℕ) → NameRow → Option Shown
shown_by word row = option_map (λ kind. shown_word kind (word row kind)) (load_kind_of row.kind)

abbrev pub shown_of_call : List FunctionRow → Space → List Call → NameRow → Option Shown
shown_of_call functions s [] row = None
shown_of_call functions s (c ∷ cs) row =
    if row.holder == c.function + 1 then shown_by (variable_word (function_at functions c.function) s) row else None

abbrev pub shown_row : Image → Space → NameRow → Option Shown
shown_row image s row =
    if row.holder == 0 then shown_by (static_word image.statics s) row else shown_of_call image.functions s s.calls row
