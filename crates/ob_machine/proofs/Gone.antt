-- Where the loop of a run comes to, turn by turn, and how a run starts.
use Rattle.std.proofs.Common.{◌≡◌, ℕ, suc, ◌+◌, ◌-◌, ◌*◌, ◌<◌, ◌≤◌, ◌^◌, List, [], ◌++◌, Option, Some, None, Result, Ok, Err, sym, ap, ◌∙◌, subst, arith}
use Rattle.std.specs.Prelude.{IfNone}
use Rattle.ob_base.specs.Faults.{Rose}
use Rattle.ob_base.specs.Sink.{TakesPrefix}
use Rattle.ob_model.specs.declared.endings.Ending.{Ending}
use Rattle.ob_model.specs.declared.settings.RunSettings.{RunSettings}
use Rattle.ob_model.specs.declared.strays.StrayEvent.{StrayEvent}
use Rattle.ob_model.specs.Endings.{Begins, InputEnd, failed}
use Rattle.ob_code.specs.declared.image.Image.{Image}
use Rattle.ob_code.specs.Machine.{after, runs}
use Rattle.ob_code.specs.Rules.{IsVerified}
use Rattle.ob_code.specs.Start.{started}
use Rattle.ob_code.specs.State.{Final, State, goes, stops}
use Rattle.ob_machine.specs.declared.execution.Execution.{Execution}
use Rattle.ob_machine.specs.declared.ports.Fault.{Fault}
use Rattle.ob_machine.specs.declared.ports.Fault.TheVariants.{Read, Write, Memory}
use Rattle.ob_machine.specs.Buffers.{Unread}
use Rattle.ob_machine.specs.Effects.{IsReady}
use Rattle.ob_machine.specs.Exchanges.{Advances, Answers, Devices, Foreshows, KnowsEnd, RunAnswers, RunEnds, RunFailsToWrite, begun, reading}
use Rattle.ob_machine.specs.Executions.{Beside, Is, SameRows, does, setup, state_of}
use Rattle.ob_machine.proofs.Exchanged.{nothing_done, still}
use Rattle.ob_machine.proofs.Flushed.{cut_as, last_as, none_read}
use Rattle.ob_machine.proofs.Going.{Going, counts_none, counts_one, going_end, going_lacks, going_on, going_read, going_write, none_beside}
use Rattle.ob_machine.proofs.Reached.{start_placed}

-- the run from a state, of so many instructions at most
abbrev pub run_of : Image → RunSettings → List ℕ → ℕ → InputEnd → State → Final
run_of image settings cycle n input_end s = runs (setup image settings cycle input_end) n s

module _ (image : Image) (settings : RunSettings) (cycle : List ℕ) where
  earlier : (limit m : ℕ) (e f : Execution) (d d' : Devices) → 0 < m → Going image settings cycle limit m e f d d' → Going image settings cycle limit (suc (m - 1)) e f d d'
  earlier limit m e f d d' some g = let is : m ≡ suc (m - 1) = omega arith in subst (λ k. Going image settings cycle limit k e f d d') is g

  pub turn_on : (limit m : ℕ) (e f h : Execution) (d d' d'' : Devices) → 0 < m → Going image settings cycle limit m e f d d' → Advances (does image settings cycle) (begun f) h d' d'' None → Going image settings cycle limit (m - 1) e h d d''
  turn_on limit m e f h d d' d'' some g a = going_on image settings cycle limit (m - 1) e f h d d' d'' (earlier limit m e f d d' some g) a

  pub turn_end : (limit m : ℕ) (e f h : Execution) (d d' d'' : Devices) (ending : Ending) → 0 < m → Going image settings cycle limit m e f d d' → Advances (does image settings cycle) (begun f) h d' d'' (Some ending) → RunEnds (run_of image settings cycle limit) e h d d'' ending
  turn_end limit m e f h d d' d'' ending some g a = going_end image settings cycle limit (m - 1) e f h d d' d'' ending (earlier limit m e f d d' some g) a

  pub turn_fault : (limit m : ℕ) (e f h : Execution) (d d' d'' : Devices) (fault : Fault) → 0 < m → f.space.settings ≡ e.space.settings → Going image settings cycle limit m e f d d' → Answers (does image settings cycle) (begun f) h d' d'' (Err fault) → RunAnswers (run_of image settings cycle limit) e h d d'' (Err fault)
  turn_fault limit m e f h d d' d'' Read some same g a = going_read image settings cycle limit (m - 1) e f h d d' d'' (earlier limit m e f d d' some g) a
  turn_fault limit m e f h d d' d'' Write some same g a =
      going_write image settings cycle limit (suc (m - 1)) e f h d d' d'' (earlier limit m e f d d' some g) a.refill.took a.refill.cause a.refill.left a.refill.read_quiet a.refill.hears
      (counts_one image settings cycle (m - 1) f h a.instructions)
  turn_fault limit m e f h d d' d'' Memory some same g a = going_lacks image settings cycle limit (m - 1) e f h d d' d'' (earlier limit m e f d d' some g) a same

  pub turn_cut : (limit m : ℕ) (e f : Execution) (d d' d'' : Devices) → Going image settings cycle limit m e f d d' → TakesPrefix d'.taken d''.taken d'.tally d''.tally d'.pending → Rose d'.write_faults d''.write_faults → d''.left ≡ d'.left → d''.read_faults ≡ d'.read_faults → d''.hears ≡ d'.hears → RunFailsToWrite (run_of image settings cycle limit) e f d d''
  turn_cut limit m e f d d' d'' g took cause left quiet hears =
      going_write image settings cycle limit m e f f d d' d'' g took cause left quiet hears (counts_none image settings cycle m f)

  -- the run that starts so
  abbrev pub whole : ℕ → InputEnd → State → Final
  whole limit input_end s = after (started image s) (run_of image settings cycle limit input_end)

  pub run_stopped : (limit : ℕ) (e f : Execution) (d : Devices) (ending : Ending) → KnowsEnd d.unread d.left → ((r : Beside) → started image (state_of e r) ≡ stops ending (state_of f r)) → RunEnds (whole limit) e f d d ending
  run_stopped limit e f d ending knows stopped =
      record {
        read = [];
        written = [];
        told = [];
        moves = still d knows;
        last_read = none_read (whole limit) e d;
        same = λ input_end more b can.
            ap (λ x. after x (run_of image settings cycle limit input_end)) (stopped (record b { input = d.unread.bytes ++ more; cycle_place = d.hears.place }))
            ∙ (λ i. record { ending = ending; state = nothing_done f d.hears.place (d.unread.bytes ++ more) b i });
      }

  -- the whole run goes as the run from where it started
  goes_as : (limit : ℕ) (e f : Execution) → ((r : Beside) → started image (state_of e r) ≡ goes (state_of f r)) → (input_end : InputEnd) (place : ℕ) (input : List ℕ) (b : Beside) → whole limit input_end (reading e place input b) ≡ run_of image settings cycle limit input_end (reading f place input b)
  goes_as limit e f starts input_end place input b = ap (λ x. after x (run_of image settings cycle limit input_end)) (starts (record b { input = input; cycle_place = place }))

  shown_as : (limit : ℕ) (e f h : Execution) → ((r : Beside) → started image (state_of e r) ≡ goes (state_of f r)) → (d : Devices) (last : Unread) (read written : List ℕ) (told : List StrayEvent) → Foreshows (run_of image settings cycle limit) f h d last read written told → Foreshows (whole limit) e h d last read written told
  shown_as limit e f h starts d last read written told a =
      let begins = goes_as limit e f starts in
      record {
        output = λ input_end more b can. subst (λ x. Begins (b.output ++ written) x.state.output) (sym (begins input_end d.hears.place (d.unread.bytes ++ (read ++ more)) b)) (a.output input_end more b can);
        events = λ input_end more b can. subst (λ x. Begins (b.events ++ told) x.state.events) (sym (begins input_end d.hears.place (d.unread.bytes ++ (read ++ more)) b)) (a.events input_end more b can);
        instructions = λ input_end more b can. subst (λ x. h.instructions ≤ x.state.instructions) (sym (begins input_end d.hears.place (d.unread.bytes ++ (read ++ more)) b)) (a.instructions input_end more b can);
      }

  pub run_started : (limit : ℕ) (e f h : Execution) (d d' : Devices) (answer : Result Ending Fault) → f.space.settings ≡ e.space.settings → ((r : Beside) → started image (state_of e r) ≡ goes (state_of f r)) → RunAnswers (run_of image settings cycle limit) f h d d' answer → RunAnswers (whole limit) e h d d' answer
  run_started limit e f h d d' (Ok ending) same starts a =
      record {
        read = a.read;
        written = a.written;
        told = a.told;
        moves = a.moves;
        last_read = last_as (run_of image settings cycle limit) (whole limit) e f d (goes_as limit e f starts failed d.hears.place) d' a.read a.written a.last_read;
        same = λ input_end more b can.
            goes_as limit e f starts input_end d.hears.place (d.unread.bytes ++ (a.read ++ more)) b ∙ a.same input_end more b can;
      }
  run_started limit e f h d d' (Err Read) same starts a =
      record {
        read = a.read;
        written = a.written;
        told = a.told;
        was_left = a.was_left;
        cause = a.cause;
        sent = a.sent;
        nothing_pending = a.nothing_pending;
        write_quiet = a.write_quiet;
        heard = a.heard;
        same = λ b. goes_as limit e f starts failed d.hears.place (d.unread.bytes ++ a.read) b ∙ a.same b;
      }
  run_started limit e f h d d' (Err Write) same starts a =
      record {
        read = a.read;
        written = a.written;
        told = a.told;
        was_left = a.was_left;
        read_quiet = a.read_quiet;
        took = a.took;
        cause = a.cause;
        heard = a.heard;
        cut = cut_as (run_of image settings cycle limit) (whole limit) e f d (goes_as limit e f starts failed d.hears.place) d'.taken d'.tally a.read a.written a.cut;
        last = a.last;
        knows_end = a.knows_end;
        begins = shown_as limit e f h starts d a.last a.read a.written a.told a.begins;
      }
  run_started limit e f h d d' (Err Memory) same starts a =
      record {
        read = a.read;
        written = a.written;
        told = a.told;
        boundless = ap (λ s. s.mode) (sym same) ∙ a.boundless;
        store = a.store;
        was_left = a.was_left;
        read_quiet = a.read_quiet;
        took = a.took;
        write_quiet = a.write_quiet;
        heard = a.heard;
        last = a.last;
        knows_end = a.knows_end;
        begins = shown_as limit e f h starts d a.last a.read a.written a.told a.begins;
      }

pub ready_start : (image : Image) (e f : Execution) (answer : Option Ending) → IsVerified image → e.space.functions ≡ image.functions → e.space.statics ≡ image.statics → e.space.space.calls ≡ [] → e.space.space.next + 524288 * e.steps < 2 ^ 62 → SameRows e.space f.space → ((r : Beside) → Is answer (started image (state_of e r)) f r) → IfNone answer (IsReady image f)
ready_start image e f None v rows statics none numbered same starts =
    let stays = start_placed image (state_of e none_beside) (state_of f none_beside) v none (starts none_beside) in
    record { rows = same.functions ∙ rows; statics = same.statics ∙ statics; placed = stays.placed; numbered = omega (arith, stays.numbered, numbered) }
ready_start image e f (Some ending) v rows statics none numbered same starts = tt
