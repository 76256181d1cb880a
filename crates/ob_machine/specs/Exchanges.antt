-- What goes through the buffers while a run goes on, and where it fails at a device.
use Rattle.std.specs.Prelude.{◌≡◌, ◌≢◌, ℕ, ◌+◌, ◌≤◌, true, false, List, [], ◌∷◌, ◌++◌, length, Option, Some, None, Result, Ok, Err}
use Rattle.std.specs.Io.KnownBytes.{append_known, prepend_known, IsAtEnd}
use Rattle.ob_base.specs.Faults.{Rose}
use Rattle.ob_base.specs.Sink.{Tally, TakesPrefix, tally_known}
use Rattle.ob_model.specs.declared.endings.Ending.{Ending}
use Rattle.ob_model.specs.declared.endings.Ending.TheVariants.{ReadFault}
use Rattle.ob_model.specs.declared.settings.Mode.TheVariants.{Boundless}
use Rattle.ob_model.specs.declared.strays.Act.TheVariants as act
use Rattle.ob_model.specs.declared.strays.StrayEvent.{StrayEvent}
use Rattle.ob_model.specs.Endings.{Begins, InputEnd, closed, failed}
use Rattle.ob_code.specs.State.{Final, Next, State, stops, goes}
use Rattle.ob_machine.specs.declared.execution.Execution.{Execution}
use Rattle.ob_machine.specs.declared.ports.Fault.{Fault}
use Rattle.ob_machine.specs.declared.ports.Fault.TheVariants.{Read, Write, Memory}
use Rattle.ob_machine.specs.declared.ports.Ports.{Ports}
use Rattle.ob_machine.specs.Buffers.{IsFilled, SentOrPending, Unread}
use Rattle.ob_machine.specs.Executions.{Beside, Is, state_of}
use Rattle.ob_machine.specs.Hearing.{Audience, GoesOnTelling, Hears}
use Rattle.ob_machine.specs.Machines.{HasStore}

-- what the buffers hold, what the source and the sink tell, and the maker and the watchers
pub record Devices : Type 0 where
  pub unread : Unread
  pub pending : List ℕ
  pub left : Option (List ℕ)
  pub read_faults : ℕ
  pub taken : Option (List ℕ)
  pub tally : Option Tally
  pub write_faults : ℕ
  pub hears : Audience

abbrev pub devices : Ports → Option (List ℕ) → ℕ → Option (List ℕ) → Option Tally → ℕ → Audience → Devices
devices p left read_faults taken tally write_faults hears =
    record { unread = p.input; pending = p.output; left = left; read_faults = read_faults; taken = taken; tally = tally; write_faults = write_faults; hears = hears }

-- where the end of the source was met, it has no more
abbrev pub KnowsEnd : Unread → Option (List ℕ) → Type 0
KnowsEnd u left = u.at_end ≡ true → IsAtEnd left

-- what can still come from the source: after its end nothing
abbrev pub CanFollow : Unread → List ℕ → InputEnd → Type 0
CanFollow u more input_end = u.at_end ≡ true → (more ≡ []) × (input_end ≡ closed)

-- bytes were read and written, events were told, and no device failed
pub record Moves (d d' : Devices) (read written : List ℕ) (told : List StrayEvent) : Type 0 where
  pub was_left : d.left ≡ prepend_known read d'.left
  pub knows_end : KnowsEnd d'.unread d'.left
  pub ended : d.unread.at_end ≡ true → (read ≡ []) × (d'.unread.at_end ≡ true)
  pub read_quiet : d'.read_faults ≡ d.read_faults
  pub sent : SentOrPending d.taken d'.taken d.tally d'.tally d'.pending (d.pending ++ written)
  pub write_quiet : d'.write_faults ≡ d.write_faults
  pub heard : Hears d.hears d'.hears told

-- all that was pending was sent, and a read gave bytes, 4,096 at most, or met the end
pub record IsRefilled (d d' : Devices) : Type 0 where
  pub moves : Moves d d' d'.unread.bytes [] []
  pub hears : d'.hears ≡ d.hears
  pub nothing_pending : d'.pending ≡ []
  pub filled : IsFilled d'.unread d'.left
  pub few : length d'.unread.bytes ≤ 4096

pub record RefillFailsToRead (d d' : Devices) : Type 0 where
  pub left : d'.left ≡ d.left
  pub cause : Rose d.read_faults d'.read_faults
  pub sent : SentOrPending d.taken d'.taken d.tally d'.tally [] d.pending
  pub nothing_pending : d'.pending ≡ []
  pub write_quiet : d'.write_faults ≡ d.write_faults
  pub hears : d'.hears ≡ d.hears

pub record RefillFailsToWrite (d d' : Devices) : Type 0 where
  pub took : TakesPrefix d.taken d'.taken d.tally d'.tally d.pending
  pub cause : Rose d.write_faults d'.write_faults
  pub left : d'.left ≡ d.left
  pub read_quiet : d'.read_faults ≡ d.read_faults
  pub hears : d'.hears ≡ d.hears

abbrev pub Refills : Devices → Devices → Result (Unit {0}) Fault → Type 0
Refills d d' (Ok _) = IsRefilled d d'
Refills d d' (Err Read) = RefillFailsToRead d d'
Refills d d' (Err Write) = RefillFailsToWrite d d'
Refills d d' (Err Memory) = ⊥

-- the state of a run with so many bytes of input before it, whose next manufactured value is at a place, and what stands beside
-- it once it has written bytes and told events
abbrev pub reading : Execution → ℕ → List ℕ → Beside → State
reading e place input b = state_of e (record b { input = input; cycle_place = place })

abbrev pub having_done : List ℕ → List ℕ → List StrayEvent → ℕ → Beside → Beside
having_done input written told place b =
    record { input = input; output = b.output ++ written; events = b.events ++ told; cycle_place = place }

-- an instruction counts once it is begun
abbrev pub begun : Execution → Execution
begun e = record e { instructions = e.instructions + 1 }

-- ---- one instruction, as a definition says what it does on an input that ends so

-- an instruction, and a run, that fails at a read, after this output
abbrev pub FailsToGet : Next → List ℕ → Type 0
FailsToGet x output = (s : State) × (x ≡ stops ReadFault s) × (s.output ≡ output)

abbrev pub EndsAtRead : Final → List ℕ → Type 0
EndsAtRead final output = (final.ending ≡ ReadFault) × (final.state.output ≡ output)

-- bytes were read, 4,096 at most: the instruction needs them, and all that was pending had been sent before
pub record NeedsRead (does : InputEnd → State → Next) (e : Execution) (d d' : Devices) (read written : List ℕ) : Type 0 where
  pub none : d.unread.bytes ≡ []
  pub more : d.unread.at_end ≡ false
  pub few : length read ≤ 4096
  pub fails : (b : Beside) → FailsToGet (does failed (reading e d.hears.place [] b)) b.output
  pub sent : SentOrPending (append_known d.taken d.pending) d'.taken (tally_known d.tally d.pending) d'.tally d'.pending written

-- it was done, whatever more will come
pub record Advances (does : InputEnd → State → Next) (e f : Execution) (d d' : Devices) (answer : Option Ending) : Type 0 where
  pub read : List ℕ
  pub written : List ℕ
  pub told : List StrayEvent
  pub moves : Moves d d' read written told
  pub needs : read ≢ [] → NeedsRead does e d d' read written
  pub same : (input_end : InputEnd) (more : List ℕ) (b : Beside) → CanFollow d'.unread more input_end → Is answer (does input_end (reading e d.hears.place (d.unread.bytes ++ (read ++ more)) b)) f (having_done (d'.unread.bytes ++ more) written told d'.hears.place b)

-- the source failed when all that it gave before was taken, and all that was written had been sent
pub record FailsToRead (does : InputEnd → State → Next) (e f : Execution) (d d' : Devices) : Type 0 where
  pub none : d.unread.bytes ≡ []
  pub more : d.unread.at_end ≡ false
  pub refill : RefillFailsToRead d d'
  pub same : (b : Beside) → does failed (reading e d.hears.place [] b) ≡ stops ReadFault (reading f d'.hears.place [] b)

-- the sink failed, having taken a prefix of what was pending
pub record FailsToWrite (e f : Execution) (d d' : Devices) : Type 0 where
  pub refill : RefillFailsToWrite d d'
  pub instructions : f.instructions ≡ e.instructions

-- there was no memory for a store that was told; the definition goes on
pub record LacksMemory (does : InputEnd → State → Next) (e f : Execution) (d d' : Devices) : Type 0 where
  pub event : StrayEvent
  pub is_store : event.act ≡ act.Store
  pub boundless : e.space.settings.mode ≡ Boundless
  pub heard : Hears d.hears d'.hears (event ∷ [])
  pub still : d' ≡ record d { hears = d'.hears }
  pub instructions : f.instructions ≡ e.instructions
  pub goes_on : (input_end : InputEnd) (b : Beside) → GoesOnTelling (does input_end (state_of e (record b { cycle_place = d.hears.place }))) (state_of e (record b { cycle_place = d.hears.place })) event

abbrev pub Answers : (InputEnd → State → Next) → Execution → Execution → Devices → Devices → Result (Option Ending) Fault → Type 0
Answers does e f d d' (Ok answer) = Advances does e f d d' answer
Answers does e f d d' (Err Read) = FailsToRead does e f d d'
Answers does e f d d' (Err Write) = FailsToWrite e f d d'
Answers does e f d d' (Err Memory) = LacksMemory does e f d d'

-- a byte of output was put, where the instruction was done
abbrev pub Puts : Option Ending → List ℕ → List ℕ → Next → Execution → Beside → Type 0
Puts None old new x e b = (byte : ℕ) × (new ≡ old ++ byte ∷ []) × (x ≡ goes (state_of e (record b { output = b.output ++ byte ∷ [] })))
Puts (Some ending) old new x e b = (new ≡ old) × (x ≡ stops ending (state_of e b))

-- ---- a whole run

-- on the bytes before the last that were read the run fails at a read, and what it writes until then was sent
pub record NeedsLast (run : InputEnd → State → Final) (e : Execution) (d : Devices) (before sent : List ℕ) : Type 0 where
  pub out : List ℕ
  pub begins : Begins (d.pending ++ out) sent
  pub fails : (b : Beside) → EndsAtRead (run failed (reading e d.hears.place (d.unread.bytes ++ before) b)) (b.output ++ out)

-- what the last read gave that gave bytes, and what had been sent before it
pub record LastRead (run : InputEnd → State → Final) (e : Execution) (d d' : Devices) (read written : List ℕ) : Type 0 where
  pub before : List ℕ
  pub last : List ℕ
  pub read_is : read ≡ before ++ last
  pub few : length last ≤ 4096
  pub none : last ≡ [] → before ≡ []
  pub first : List ℕ
  pub behind : List ℕ
  pub written_is : first ++ behind ≡ d.pending ++ written
  pub sent : SentOrPending (append_known d.taken first) d'.taken (tally_known d.tally first) d'.tally d'.pending behind
  pub needs : last ≢ [] → NeedsLast run e d before first

-- the same where the sink failed then
pub record CutAfterRead (run : InputEnd → State → Final) (e : Execution) (d : Devices) (taken : Option (List ℕ)) (tally : Option Tally) (read written : List ℕ) : Type 0 where
  pub before : List ℕ
  pub last : List ℕ
  pub read_is : read ≡ before ++ last
  pub few : length last ≤ 4096
  pub none : last ≡ [] → before ≡ []
  pub sent : List ℕ
  pub took : taken ≡ append_known d.taken sent
  pub tallied : tally ≡ tally_known d.tally sent
  pub begins : Begins sent (d.pending ++ written)
  pub needs : last ≢ [] → NeedsLast run e d before sent

pub record RunEnds (run : InputEnd → State → Final) (e f : Execution) (d d' : Devices) (ending : Ending) : Type 0 where
  pub read : List ℕ
  pub written : List ℕ
  pub told : List StrayEvent
  pub moves : Moves d d' read written told
  pub last_read : LastRead run e d d' read written
  pub same : (input_end : InputEnd) (more : List ℕ) (b : Beside) → CanFollow d'.unread more input_end → run input_end (reading e d.hears.place (d.unread.bytes ++ (read ++ more)) b) ≡ record { ending = ending; state = state_of f (having_done (d'.unread.bytes ++ more) written told d'.hears.place b) }

pub record RunFailsToRead (run : InputEnd → State → Final) (e f : Execution) (d d' : Devices) : Type 0 where
  pub read : List ℕ
  pub written : List ℕ
  pub told : List StrayEvent
  pub was_left : d.left ≡ prepend_known read d'.left
  pub cause : Rose d.read_faults d'.read_faults
  pub sent : SentOrPending d.taken d'.taken d.tally d'.tally [] (d.pending ++ written)
  pub nothing_pending : d'.pending ≡ []
  pub write_quiet : d'.write_faults ≡ d.write_faults
  pub heard : Hears d.hears d'.hears told
  pub same : (b : Beside) → run failed (reading e d.hears.place (d.unread.bytes ++ read) b) ≡ record { ending = ReadFault; state = state_of f (having_done [] written told d'.hears.place b) }

-- the output and the events until then are those that the run begins with, whatever more will come
pub record Foreshows (run : InputEnd → State → Final) (e f : Execution) (d : Devices) (last : Unread) (read written : List ℕ) (told : List StrayEvent) : Type 0 where
  pub output : (input_end : InputEnd) (more : List ℕ) (b : Beside) → CanFollow last more input_end → Begins (b.output ++ written) (run input_end (reading e d.hears.place (d.unread.bytes ++ (read ++ more)) b)).state.output
  pub events : (input_end : InputEnd) (more : List ℕ) (b : Beside) → CanFollow last more input_end → Begins (b.events ++ told) (run input_end (reading e d.hears.place (d.unread.bytes ++ (read ++ more)) b)).state.events
  pub instructions : (input_end : InputEnd) (more : List ℕ) (b : Beside) → CanFollow last more input_end → f.instructions ≤ (run input_end (reading e d.hears.place (d.unread.bytes ++ (read ++ more)) b)).state.instructions

pub record RunFailsToWrite (run : InputEnd → State → Final) (e f : Execution) (d d' : Devices) : Type 0 where
  pub read : List ℕ
  pub written : List ℕ
  pub told : List StrayEvent
  pub was_left : d.left ≡ prepend_known read d'.left
  pub read_quiet : d'.read_faults ≡ d.read_faults
  pub took : TakesPrefix d.taken d'.taken d.tally d'.tally (d.pending ++ written)
  pub cause : Rose d.write_faults d'.write_faults
  pub heard : Hears d.hears d'.hears told
  pub cut : CutAfterRead run e d d'.taken d'.tally read written
  pub last : Unread
  pub knows_end : KnowsEnd last d'.left
  pub begins : Foreshows run e f d last read written told

-- there was no memory for a store
pub record RunLacksMemory (run : InputEnd → State → Final) (e f : Execution) (d d' : Devices) : Type 0 where
  pub read : List ℕ
  pub written : List ℕ
  pub told : List StrayEvent
  pub boundless : e.space.settings.mode ≡ Boundless
  pub store : HasStore told
  pub was_left : d.left ≡ prepend_known read d'.left
  pub read_quiet : d'.read_faults ≡ d.read_faults
  pub took : TakesPrefix d.taken d'.taken d.tally d'.tally (d.pending ++ written)
  pub write_quiet : d'.write_faults ≡ d.write_faults
  pub heard : Hears d.hears d'.hears told
  pub last : Unread
  pub knows_end : KnowsEnd last d'.left
  pub begins : Foreshows run e f d last read written told

abbrev pub RunAnswers : (InputEnd → State → Final) → Execution → Execution → Devices → Devices → Result Ending Fault → Type 0
RunAnswers run e f d d' (Ok ending) = RunEnds run e f d d' ending
RunAnswers run e f d d' (Err Read) = RunFailsToRead run e f d d'
RunAnswers run e f d d' (Err Write) = RunFailsToWrite run e f d d'
RunAnswers run e f d d' (Err Memory) = RunLacksMemory run e f d d'
