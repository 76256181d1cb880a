-- A maker and the watchers of a run in progress, and an instruction that may tell and take from them.
use Rattle.std.specs.Prelude.{◌≡◌, ℕ, List, [], ◌∷◌, ◌++◌, map, Option, Some, None, Result, Ok, Err}
use Rattle.ob_model.specs.declared.endings.Ending.{Ending}
use Rattle.ob_model.specs.declared.settings.Mode.TheVariants.{Boundless}
use Rattle.ob_model.specs.declared.strays.Act.TheVariants as act
use Rattle.ob_model.specs.declared.strays.StrayEvent.{StrayEvent}
use Rattle.ob_model.specs.Endings.{InputEnd}
use Rattle.ob_code.specs.declared.image.Image.{Image}
use Rattle.ob_code.specs.State.{Next, Setup, State, goes}
use Rattle.ob_watch.specs.Watching.{Watch, after_events}
use Rattle.ob_machine.specs.declared.execution.Execution.{Execution}
use Rattle.ob_machine.specs.declared.ports.Fault.{Fault}
use Rattle.ob_machine.specs.declared.ports.Fault.TheVariants.{Read, Write, Memory}
use Rattle.ob_machine.specs.Executions.{Beside, Is, setup, state_of}

-- the cycle of manufactured values, the place in it, and what the watchers saw
pub record Audience : Type 0 where
  pub cycle : List ℕ
  pub place : ℕ
  pub seen : List Watch

-- events were told, and the cycle is the same
pub record Hears (h h' : Audience) (told : List StrayEvent) : Type 0 where
  pub cycle : h'.cycle ≡ h.cycle
  pub seen : h'.seen ≡ map (after_events told) h.seen

abbrev pub events_of : Option StrayEvent → List StrayEvent
events_of None = []
events_of (Some e) = e ∷ []

-- the state of a run whose next manufactured value is at the audience's place, and what stands beside it once events were told
abbrev pub heard_by : Execution → Audience → Beside → State
heard_by e h b = state_of e (record b { cycle_place = h.place })

abbrev pub having_told : List StrayEvent → ℕ → Beside → Beside
having_told told place b = record b { events = b.events ++ told; cycle_place = place }

-- an instruction was done, and it told and took what the definition says
pub record Heard (acts : Setup → State → Next) (answer : Option Ending) (e f : Execution) (h h' : Audience) : Type 0 where
  pub told : List StrayEvent
  pub hears : Hears h h' told
  pub same : (image : Image) (input_end : InputEnd) (b : Beside) → Is answer (acts (setup image e.space.settings h.cycle input_end) (heard_by e h b)) f (having_told told h'.place b)

-- a state that the definition goes on to, where an event was told
pub record GoesOnTelling (x : Next) (s : State) (event : StrayEvent) : Type 0 where
  pub next : State
  pub goes_on : x ≡ goes next
  pub output : next.output ≡ s.output
  pub events : next.events ≡ s.events ++ event ∷ []
  pub instructions : next.instructions ≡ s.instructions

-- there was no memory for a store that was told; the definition goes on
pub record Lacks (acts : Setup → State → Next) (e f : Execution) (h h' : Audience) : Type 0 where
  pub event : StrayEvent
  pub is_store : event.act ≡ act.Store
  pub boundless : e.space.settings.mode ≡ Boundless
  pub hears : Hears h h' (event ∷ [])
  pub instructions : f.instructions ≡ e.instructions
  pub goes_on : (image : Image) (input_end : InputEnd) (b : Beside) → GoesOnTelling (acts (setup image e.space.settings h.cycle input_end) (heard_by e h b)) (heard_by e h b) event

-- a store is done, or it lacks memory
abbrev pub HeardOrLacks : (Setup → State → Next) → Result (Option Ending) Fault → Execution → Execution → Audience → Audience → Type 0
HeardOrLacks acts (Ok answer) e f h h' = Heard acts answer e f h h'
HeardOrLacks acts (Err Memory) e f h h' = Lacks acts e f h h'
HeardOrLacks acts (Err Read) e f h h' = ⊥
HeardOrLacks acts (Err Write) e f h h' = ⊥
