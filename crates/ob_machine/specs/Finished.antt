-- Where a run came to, with its devices, its maker and its watchers.
use Rattle.std.specs.Prelude.{◌≡◌, ℕ, ◌≤◌, List, [], map}
use Rattle.ob_base.specs.Devices.{Reading, Writing, IsWritten, IsCutOff}
use Rattle.ob_model.specs.declared.endings.Ending.{Ending}
use Rattle.ob_model.specs.declared.endings.Ending.TheVariants.{WriteFault, NoMemory}
use Rattle.ob_model.specs.declared.settings.Mode.TheVariants.{Boundless}
use Rattle.ob_model.specs.declared.strays.StrayEvent.{StrayEvent}
use Rattle.ob_model.specs.Endings.{Begins, InputEnd}
use Rattle.ob_code.specs.State.{Final, State}
use Rattle.ob_watch.specs.Watching.{after_events}
use Rattle.ob_machine.specs.declared.execution.Execution.{Execution}
use Rattle.ob_machine.specs.Devices.{IsInput, IsPartlySent}
use Rattle.ob_machine.specs.Executions.{Beside, state_of}
use Rattle.ob_machine.specs.Machines.{HasStore, Hearing, IsFlushedBeforeReads}

-- what stands beside a run before it starts
abbrev pub at_start : List ℕ → ℕ → Beside
at_start input place = record { input = input; output = []; events = []; cycle_place = place }

-- it came to the end of the definition's run
pub record Ended (final : Final) (f : Execution) (w : Writing) (h : Hearing) (answer : Ending) : Type 0 where
  pub ending : answer ≡ final.ending
  pub output : IsWritten w final.state.output
  pub place : h.place_now ≡ final.state.cycle_place
  pub events : h.seen_now ≡ map (after_events final.state.events) h.seen_before
  pub space : f.space.space ≡ final.state.space
  pub instructions : f.instructions ≡ final.state.instructions

-- what was told is a prefix of the run's events
pub record IsToldUntil (events : List StrayEvent) (h : Hearing) : Type 0 where
  pub told : List StrayEvent
  pub begins : Begins told events
  pub seen : h.seen_now ≡ map (after_events told) h.seen_before

-- a write failed before
pub record Broken (final : Final) (f : Execution) (w : Writing) (h : Hearing) (answer : Ending) : Type 0 where
  pub ending : answer ≡ WriteFault
  pub output : IsCutOff w final.state.output
  pub told : IsToldUntil final.state.events h
  pub instructions : f.instructions ≤ final.state.instructions

-- and output had been sent before each read
abbrev pub Flushed : (InputEnd → State → Final) → Execution → ℕ → Reading → Writing → Type 0
Flushed run e place r w = IsFlushedBeforeReads (λ input input_end. run input_end (state_of e (at_start input place))) r w

-- there was no memory for a store before
pub record Starved (final : Final) (e f : Execution) (w : Writing) (h : Hearing) (answer : Ending) : Type 0 where
  pub ending : answer ≡ NoMemory
  pub boundless : e.space.settings.mode ≡ Boundless
  pub store : HasStore final.state.events
  pub output : IsPartlySent w final.state.output
  pub told : IsToldUntil final.state.events h
  pub instructions : f.instructions ≤ final.state.instructions

pub data Comes (run : InputEnd → State → Final) (e f : Execution) (r : Reading) (w : Writing) (h : Hearing) (answer : Ending) (final : Final) : Type 0 where
  ended : (is : Ended final f w h answer) → Comes run e f r w h answer final
  broken : (is : Broken final f w h answer) (flushed : Flushed run e h.place_before r w) → Comes run e f r w h answer final
  starved : (is : Starved final e f w h answer) → Comes run e f r w h answer final

pub record ComesOut (run : InputEnd → State → Final) (e f : Execution) (r : Reading) (w : Writing) (h : Hearing) (answer : Ending) : Type 0 where
  pub input : List ℕ
  pub input_end : InputEnd
  pub is_input : IsInput r input input_end
  pub comes : Comes run e f r w h answer (run input_end (state_of e (at_start input h.place_before)))
