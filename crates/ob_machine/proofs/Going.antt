-- A run that goes on, instruction by instruction, and where it ends.
use Rattle.std.proofs.Common.{◌≡◌, ◌≢◌, ℕ, suc, ◌+◌, ◌≤◌, ◌⊎◌, false, List, [], ◌∷◌, ◌++◌, Option, Some, None, Result, slice_get, refl, sym, ap, ◌∙◌, subst, arith, append_assoc, inl, inr}
use Rattle.std.specs.Io.KnownBytes.{append_known, prepend_known, IsAtEnd}
use Rattle.std.proofs.lemmas.List.{append-nil}
use Rattle.ob_base.specs.Faults.{Rose}
use Rattle.ob_base.specs.Sink.{Tally, TakesPrefix, tally_known}
use Rattle.ob_model.specs.declared.endings.Ending.{Ending}
use Rattle.ob_model.specs.declared.endings.Ending.TheVariants.{ReadFault, Spent}
use Rattle.ob_model.specs.declared.settings.RunSettings.{RunSettings}
use Rattle.ob_model.specs.declared.strays.StrayEvent.{StrayEvent}
use Rattle.ob_model.specs.Endings.{Begins, InputEnd, closed, failed}
use Rattle.ob_code.specs.declared.image.Image.{Image}
use Rattle.ob_code.specs.Machine.{after, counted, runs, step}
use Rattle.ob_code.specs.Rules.{IsVerified}
use Rattle.ob_code.specs.State.{Final, State, goes, stops}
use Rattle.ob_space.specs.Loaded.{Loaded}
use Rattle.ob_machine.specs.declared.execution.Execution.{Execution}
use Rattle.ob_machine.specs.declared.ports.Fault.{Fault}
use Rattle.ob_machine.specs.Effects.{IsReady}
use Rattle.ob_machine.specs.Exchanges.{Advances, Answers, CanFollow, Devices, EndsAtRead, FailsToRead, Foreshows, KnowsEnd, LacksMemory, LastRead, Moves, NeedsRead, RunEnds, RunFailsToRead, RunFailsToWrite, RunLacksMemory, begun, having_done, reading}
use Rattle.ob_machine.specs.Executions.{Beside, SameRows, does, setup, state_of}
use Rattle.ob_machine.specs.Buffers.{SentOrPending}
use Rattle.ob_machine.proofs.Exchanged.{nothing_done, still}
use Rattle.ob_machine.proofs.Told.{hears_same, hears_then, store_told, sent_part}
use Rattle.ob_machine.proofs.Flushed.{cut_last, none_or_some, none_read, put_after, read_last}
use Rattle.ob_machine.proofs.Sent.{flush_prefix, sent_then}
use Rattle.ob_machine.proofs.Reached.{step_placed}
use Rattle.ob_machine.proofs.WholeRuns.{runs_count, runs_follow}
use Rattle.ob_machine.proofs.Tells as tells

prepend-then : (known : Option (List ℕ)) (xs ys : List ℕ) → prepend_known xs (prepend_known ys known) ≡ prepend_known (xs ++ ys) known
prepend-then None xs ys = refl
prepend-then (Some zs) xs ys = ap Some (sym (append_assoc xs ys zs))

-- one exchange after another
pub moves_then : (d e f : Devices) (read written : List ℕ) (told : List StrayEvent) (read' written' : List ℕ) (told' : List StrayEvent) → Moves d e read written told → Moves e f read' written' told' → Moves d f (read ++ read') (written ++ written') (told ++ told')
moves_then d e f read written told read' written' told' p q =
    record {
      was_left = p.was_left ∙ ap (prepend_known read) q.was_left ∙ prepend-then f.left read read';
      knows_end = q.knows_end;
      ended = λ h. let a = p.ended h in let b = q.ended a.1 in ((λ i. a.0 i ++ b.0 i), b.1);
      read_quiet = q.read_quiet ∙ p.read_quiet;
      sent = subst (λ bytes. SentOrPending d.taken f.taken d.tally f.tally f.pending bytes) (append_assoc d.pending written written') (sent_then d.taken e.taken f.taken d.tally e.tally f.tally e.pending f.pending (d.pending ++ written) written' p.sent q.sent);
      write_quiet = q.write_quiet ∙ p.write_quiet;
      heard = hears_then d.hears e.hears f.hears told told' p.heard q.heard;
    }

-- what can come after an exchange, with what was read in it, can come before it
can_before : (d d' : Devices) (read written : List ℕ) (told : List StrayEvent) (more : List ℕ) (input_end : InputEnd) → Moves d d' read written told → CanFollow d'.unread more input_end → CanFollow d.unread (read ++ more) input_end
can_before d d' read written told more input_end m can = λ h. let a = m.ended h in let b = can a.1 in ((λ i. a.0 i ++ b.0 i), b.1)

module _ (image : Image) (settings : RunSettings) (cycle : List ℕ) where
  abbrev run : ℕ → InputEnd → State → Final
  run n input_end s = runs (setup image settings cycle input_end) n s

  -- the run from one state on is what is left of the run from another
  pub record Going (limit n : ℕ) (e f : Execution) (d d' : Devices) : Type 0 where
    pub read : List ℕ
    pub written : List ℕ
    pub told : List StrayEvent
    pub moves : Moves d d' read written told
    pub last_read : LastRead (run limit) e d d' read written
    pub same : (input_end : InputEnd) (more : List ℕ) (b : Beside) → CanFollow d'.unread more input_end → run limit input_end (reading e d.hears.place (d.unread.bytes ++ (read ++ more)) b) ≡ run n input_end (state_of f (having_done (d'.unread.bytes ++ more) written told d'.hears.place b))

  pub going_first : (limit : ℕ) (e : Execution) (d : Devices) → KnowsEnd d.unread d.left → Going limit limit e e d d
  going_first limit e d knows =
      record { read = []; written = []; told = []; moves = still d knows; last_read = none_read (run limit) e d; same = λ input_end more b can. ap (run limit input_end) (nothing_done e d.hears.place (d.unread.bytes ++ more) b) }

  -- what two steps did
  done_then : (f : Execution) (before input written : List ℕ) (told : List StrayEvent) (place : ℕ) (written' : List ℕ) (told' : List StrayEvent) (place' : ℕ) (b : Beside) → state_of f (having_done input written' told' place' (having_done before written told place b)) ≡ state_of f (having_done input (written ++ written') (told ++ told') place' b)
  done_then f before input written told place written' told' place' b =
      λ i. state_of f (record { input = input; output = append_assoc b.output written written' i; events = append_assoc b.events told told' i; cycle_place = place' })

  -- the run before an instruction, on what was read until after it
  before_step : (limit n : ℕ) (e f h : Execution) (d d' d'' : Devices) (answer : Option Ending) (g : Going limit (suc n) e f d d') (a : Advances (does image settings cycle) (begun f) h d' d'' answer) (input_end : InputEnd) (more : List ℕ) (b : Beside) → CanFollow d''.unread more input_end → run limit input_end (reading e d.hears.place (d.unread.bytes ++ ((g.read ++ a.read) ++ more)) b) ≡ after (does image settings cycle input_end (reading (begun f) d'.hears.place (d'.unread.bytes ++ (a.read ++ more)) (having_done (d'.unread.bytes ++ (a.read ++ more)) g.written g.told d'.hears.place b))) (run n input_end)
  before_step limit n e f h d d' d'' answer g a input_end more b can =
      ap (λ xs. run limit input_end (reading e d.hears.place (d.unread.bytes ++ xs) b)) (append_assoc g.read a.read more)
      ∙ g.same input_end (a.read ++ more) b (can_before d' d'' a.read a.written a.told more input_end a.moves can)

  -- what was read before an instruction that fails to read
  fails_there : (limit n : ℕ) (e f : Execution) (d d' : Devices) (g : Going limit (suc n) e f d d') → d'.unread.bytes ≡ [] → d'.unread.at_end ≡ false → (b : Beside) (s : State) → does image settings cycle failed (reading (begun f) d'.hears.place [] (having_done [] g.written g.told d'.hears.place b)) ≡ stops ReadFault s → run limit failed (reading e d.hears.place (d.unread.bytes ++ g.read) b) ≡ record { ending = ReadFault; state = s }
  fails_there limit n e f d d' g none more b s fails =
      ap (λ xs. run limit failed (reading e d.hears.place (d.unread.bytes ++ xs) b)) (sym (append-nil g.read))
      ∙ g.same failed [] b (λ ended. absurd (cc (more, ended)))
      ∙ ap (λ xs. run (suc n) failed (state_of f (having_done xs g.written g.told d'.hears.place b))) (append-nil d'.unread.bytes ∙ none)
      ∙ ap (λ x. after x (run n failed)) fails

  -- what was read last, after one more instruction
  read_on : (limit n : ℕ) (e f h : Execution) (d d' d'' : Devices) (answer : Option Ending) (g : Going limit (suc n) e f d d') (a : Advances (does image settings cycle) (begun f) h d' d'' answer) → LastRead (run limit) e d d'' (g.read ++ a.read) (g.written ++ a.written)
  read_on limit n e f h d d' d'' answer g a = by_read (none_or_some a.read)
    where
      ends : NeedsRead (does image settings cycle) (begun f) d' d'' a.read a.written → (b : Beside) → EndsAtRead (run limit failed (reading e d.hears.place (d.unread.bytes ++ g.read) b)) (b.output ++ g.written)
      ends m b =
          let x = m.fails (having_done [] g.written g.told d'.hears.place b) in
          let whole = fails_there limit n e f d d' g m.none m.more b x.0 x.1 in
          (ap (λ y. y.ending) whole, ap (λ y. y.state.output) whole ∙ x.2)

      by_read : (a.read ≡ []) ⊎ (a.read ≢ []) → LastRead (run limit) e d d'' (g.read ++ a.read) (g.written ++ a.written)
      by_read (inl none) =
          subst (λ xs. LastRead (run limit) e d d'' xs (g.written ++ a.written)) (sym (ap (λ xs. g.read ++ xs) none ∙ append-nil g.read))
          (put_after (run limit) e d d' d'' g.read g.written a.written g.last_read a.moves.sent)
      by_read (inr some) =
          let m = a.needs some in
          read_last (run limit) (does image settings cycle) e (begun f) d d' d'' g.read g.written a.read a.written g.moves.sent some m (ends m)

  pub going_on : (limit n : ℕ) (e f h : Execution) (d d' d'' : Devices) → Going limit (suc n) e f d d' → Advances (does image settings cycle) (begun f) h d' d'' None → Going limit n e h d d''
  going_on limit n e f h d d' d'' g a =
      record {
        read = g.read ++ a.read;
        written = g.written ++ a.written;
        told = g.told ++ a.told;
        moves = moves_then d d' d'' g.read g.written g.told a.read a.written a.told g.moves a.moves;
        last_read = read_on limit n e f h d d' d'' None g a;
        same = λ input_end more b can.
            before_step limit n e f h d d' d'' None g a input_end more b can
            ∙ ap (λ x. after x (run n input_end)) (a.same input_end more (having_done (d'.unread.bytes ++ (a.read ++ more)) g.written g.told d'.hears.place b) can)
            ∙ ap (run n input_end) (done_then h (d'.unread.bytes ++ (a.read ++ more)) (d''.unread.bytes ++ more) g.written g.told d'.hears.place a.written a.told d''.hears.place b);
      }

  pub going_end : (limit n : ℕ) (e f h : Execution) (d d' d'' : Devices) (ending : Ending) → Going limit (suc n) e f d d' → Advances (does image settings cycle) (begun f) h d' d'' (Some ending) → RunEnds (run limit) e h d d'' ending
  going_end limit n e f h d d' d'' ending g a =
      record {
        read = g.read ++ a.read;
        written = g.written ++ a.written;
        told = g.told ++ a.told;
        moves = moves_then d d' d'' g.read g.written g.told a.read a.written a.told g.moves a.moves;
        last_read = read_on limit n e f h d d' d'' (Some ending) g a;
        same = λ input_end more b can.
            before_step limit n e f h d d' d'' (Some ending) g a input_end more b can
            ∙ ap (λ x. after x (run n input_end)) (a.same input_end more (having_done (d'.unread.bytes ++ (a.read ++ more)) g.written g.told d'.hears.place b) can)
            ∙ (λ i. record { ending = ending; state = done_then h (d'.unread.bytes ++ (a.read ++ more)) (d''.unread.bytes ++ more) g.written g.told d'.hears.place a.written a.told d''.hears.place b i });
      }

  pub going_spent : (limit : ℕ) (e f : Execution) (d d' : Devices) → Going limit 0 e f d d' → RunEnds (run limit) e f d d' Spent
  going_spent limit e f d d' g = record { read = g.read; written = g.written; told = g.told; moves = g.moves; last_read = g.last_read; same = g.same }

  -- the source failed
  pub going_read : (limit n : ℕ) (e f h : Execution) (d d' d'' : Devices) → Going limit (suc n) e f d d' → FailsToRead (does image settings cycle) (begun f) h d' d'' → RunFailsToRead (run limit) e h d d''
  going_read limit n e f h d d' d'' g a =
      record {
        read = g.read;
        written = g.written;
        told = g.told;
        was_left = g.moves.was_left ∙ ap (prepend_known g.read) (sym a.refill.left);
        cause = subst (λ k. Rose k d''.read_faults) g.moves.read_quiet a.refill.cause;
        sent = subst (λ bytes. SentOrPending d.taken d''.taken d.tally d''.tally [] bytes) (append-nil (d.pending ++ g.written)) (sent_then d.taken d'.taken d''.taken d.tally d'.tally d''.tally d'.pending [] (d.pending ++ g.written) [] g.moves.sent (subst (λ bytes. SentOrPending d'.taken d''.taken d'.tally d''.tally [] bytes) (sym (append-nil d'.pending)) a.refill.sent));
        nothing_pending = a.refill.nothing_pending;
        write_quiet = a.refill.write_quiet ∙ g.moves.write_quiet;
        heard = hears_same d.hears d'.hears d''.hears g.told g.moves.heard a.refill.hears;
        same = λ b. fails_there limit n e f d d' g a.none a.more b (reading h d''.hears.place [] (having_done [] g.written g.told d'.hears.place b)) (a.same (having_done [] g.written g.told d'.hears.place b));
      }

  -- the sink failed at what was pending
  pub going_write : (limit n : ℕ) (e f h : Execution) (d d' d'' : Devices) → Going limit n e f d d' → TakesPrefix d'.taken d''.taken d'.tally d''.tally d'.pending → Rose d'.write_faults d''.write_faults → d''.left ≡ d'.left → d''.read_faults ≡ d'.read_faults → d''.hears ≡ d'.hears → ((input_end : InputEnd) (s : State) → s.instructions ≡ f.instructions → h.instructions ≤ (run n input_end s).state.instructions) → RunFailsToWrite (run limit) e h d d''
  going_write limit n e f h d d' d'' g took cause left quiet hears count =
      record {
        read = g.read;
        written = g.written;
        told = g.told;
        was_left = g.moves.was_left ∙ ap (prepend_known g.read) (sym left);
        read_quiet = quiet ∙ g.moves.read_quiet;
        took = flush_prefix d.taken d'.taken d''.taken d.tally d'.tally d''.tally d'.pending (d.pending ++ g.written) g.moves.sent took;
        cause = subst (λ k. Rose k d''.write_faults) g.moves.write_quiet cause;
        cut = cut_last (run limit) e d d' d''.taken d''.tally g.read g.written g.last_read took;
        last = d'.unread;
        knows_end = λ ended. subst (λ known. IsAtEnd known) (sym left) (g.moves.knows_end ended);
        heard = hears_same d.hears d'.hears d''.hears g.told g.moves.heard hears;
        begins = record {
          output = λ input_end more b can.
              subst (λ x. Begins (b.output ++ g.written) x.state.output) (sym (g.same input_end more b can))
              (runs_follow (setup image settings cycle input_end) n (state_of f (having_done (d'.unread.bytes ++ more) g.written g.told d'.hears.place b))).output;
          events = λ input_end more b can.
              subst (λ x. Begins (b.events ++ g.told) x.state.events) (sym (g.same input_end more b can))
              (runs_follow (setup image settings cycle input_end) n (state_of f (having_done (d'.unread.bytes ++ more) g.written g.told d'.hears.place b))).events;
          instructions = λ input_end more b can.
              subst (λ x. h.instructions ≤ x.state.instructions) (sym (g.same input_end more b can))
              (count input_end (state_of f (having_done (d'.unread.bytes ++ more) g.written g.told d'.hears.place b)) refl);
        };
      }

  -- there was no memory for a store
  module _ (limit n : ℕ) (e f h : Execution) (d d' d'' : Devices) (g : Going limit (suc n) e f d d') (a : LacksMemory (does image settings cycle) (begun f) h d' d'') where
    pub record GoesOnFrom (final : Final) (b : Beside) : Type 0 where
      pub next : State
      pub output : next.output ≡ b.output ++ g.written
      pub events : next.events ≡ b.events ++ (g.told ++ a.event ∷ [])
      pub instructions : next.instructions ≡ h.instructions
      pub input_end : InputEnd
      pub goes_on : final ≡ run n input_end next

    lacking : (input_end : InputEnd) (more : List ℕ) (b : Beside) → CanFollow d'.unread more input_end → GoesOnFrom (run limit input_end (reading e d.hears.place (d.unread.bytes ++ (g.read ++ more)) b)) b
    lacking input_end more b can =
        let there : Beside = having_done (d'.unread.bytes ++ more) g.written g.told d'.hears.place b in
        let x = a.goes_on input_end there in
        record {
          next = x.next;
          output = x.output;
          events = x.events ∙ append_assoc b.events g.told (a.event ∷ []);
          instructions = x.instructions ∙ sym a.instructions;
          input_end = input_end;
          goes_on = g.same input_end more b can ∙ ap (λ y. after y (run n input_end)) x.goes_on;
        }

    foreshown : Foreshows (run limit) e h d d'.unread g.read g.written (g.told ++ a.event ∷ [])
    foreshown = record {
      output = λ input_end more b can.
          let x = lacking input_end more b can in
          subst (λ y. Begins (b.output ++ g.written) y.state.output) (sym x.goes_on)
          (subst (λ o. Begins o (run n x.input_end x.next).state.output) x.output (runs_follow (setup image settings cycle x.input_end) n x.next).output);
      events = λ input_end more b can.
          let x = lacking input_end more b can in
          subst (λ y. Begins (b.events ++ (g.told ++ a.event ∷ [])) y.state.events) (sym x.goes_on)
          (subst (λ o. Begins o (run n x.input_end x.next).state.events) x.events (runs_follow (setup image settings cycle x.input_end) n x.next).events);
      instructions = λ input_end more b can.
          let x = lacking input_end more b can in
          subst (λ y. h.instructions ≤ y.state.instructions) (sym x.goes_on)
          (let counted = (runs_follow (setup image settings cycle x.input_end) n x.next).instructions in omega (arith, counted, x.instructions));
    }

    pub going_lacks : f.space.settings ≡ e.space.settings → RunLacksMemory (run limit) e h d d''
    going_lacks same =
        record {
          read = g.read;
          written = g.written;
          told = g.told ++ a.event ∷ [];
          boundless = ap (λ s. s.mode) (sym same) ∙ a.boundless;
          store = store_told g.told a.event a.is_store;
          was_left = g.moves.was_left ∙ ap (λ x. prepend_known g.read x.left) (sym a.still);
          read_quiet = ap (λ x. x.read_faults) a.still ∙ g.moves.read_quiet;
          took = subst (λ x. TakesPrefix d.taken x.taken d.tally x.tally (d.pending ++ g.written)) (sym a.still)
              (sent_part d.taken d'.taken d.tally d'.tally d'.pending (d.pending ++ g.written) g.moves.sent);
          write_quiet = ap (λ x. x.write_faults) a.still ∙ g.moves.write_quiet;
          heard = hears_then d.hears d'.hears d''.hears g.told (a.event ∷ []) g.moves.heard a.heard;
          last = d'.unread;
          knows_end = λ ended. subst (λ x. IsAtEnd x.left) (sym a.still) (g.moves.knows_end ended);
          begins = foreshown;
        }

  pub counts_one : (n : ℕ) (f h : Execution) → h.instructions ≡ f.instructions + 1 → (input_end : InputEnd) (s : State) → s.instructions ≡ f.instructions → h.instructions ≤ (run (suc n) input_end s).state.instructions
  counts_one n f h is input_end s same = omega (arith, runs_count (setup image settings cycle input_end) n s)

  pub counts_none : (n : ℕ) (f : Execution) → (input_end : InputEnd) (s : State) → s.instructions ≡ f.instructions → f.instructions ≤ (run n input_end s).state.instructions
  counts_none n f input_end s same = omega (arith, (runs_follow (setup image settings cycle input_end) n s).instructions)

  -- what was pending was sent
  pub going_sent : (limit n : ℕ) (e f : Execution) (d d' : Devices) (taken : Option (List ℕ)) (tally : Option Tally) (faults : ℕ) → Going limit n e f d d' → taken ≡ append_known d'.taken d'.pending → tally ≡ tally_known d'.tally d'.pending → faults ≡ d'.write_faults → Going limit n e f d (record d' { pending = []; taken = taken; tally = tally; write_faults = faults })
  going_sent limit n e f d d' taken tally faults g took tallied quiet =
      record {
        read = g.read;
        written = g.written;
        told = g.told;
        moves = record {
          was_left = g.moves.was_left;
          knows_end = g.moves.knows_end;
          ended = g.moves.ended;
          read_quiet = g.moves.read_quiet;
          sent = subst (λ bytes. SentOrPending d.taken taken d.tally tally [] bytes) (append-nil (d.pending ++ g.written))
              (sent_then d.taken d'.taken taken d.tally d'.tally tally d'.pending [] (d.pending ++ g.written) [] g.moves.sent
              (record { sent = d'.pending; took = took; tallied = tallied; rest = refl }));
          write_quiet = quiet ∙ g.moves.write_quiet;
          heard = g.moves.heard;
        };
        last_read = subst (λ xs. LastRead (run limit) e d (record d' { pending = []; taken = taken; tally = tally; write_faults = faults }) g.read xs) (append-nil g.written)
            (put_after (run limit) e d d' (record d' { pending = []; taken = taken; tally = tally; write_faults = faults }) g.read g.written [] g.last_read
            (record { sent = d'.pending; took = took; tallied = tallied; rest = refl }));
        same = g.same;
      }

-- an instruction under the settings and the cycle that stay
pub answers_at : (image : Image) (settings settings' : RunSettings) (cycle cycle' : List ℕ) (e f : Execution) (d d' : Devices) (answer : Result (Option Ending) Fault) → settings ≡ settings' → cycle ≡ cycle' → Answers (does image settings cycle) e f d d' answer → Answers (does image settings' cycle') e f d d' answer
answers_at image settings settings' cycle cycle' e f d d' answer p q a =
    subst (λ s. Answers (does image s cycle') e f d d' answer) p (subst (λ c. Answers (does image settings c) e f d d' answer) q a)

pub rows_then : (r s t : Loaded) → SameRows r s → SameRows s t → SameRows r t
rows_then r s t p q =
    record { statics = q.statics ∙ p.statics; pointers = q.pointers ∙ p.pointers; functions = q.functions ∙ p.functions; settings = q.settings ∙ p.settings }

-- ---- a run stays ready

pub none_beside : Beside
none_beside = record { input = []; output = []; events = []; cycle_place = 0 }

-- the state that an instruction goes on to
stepped_to : (image : Image) (settings : RunSettings) (cycle : List ℕ) (f h : Execution) (d' d'' : Devices) (a : Advances (does image settings cycle) (begun f) h d' d'' None) → step (setup image settings cycle closed) (reading f d'.hears.place (d'.unread.bytes ++ (a.read ++ [])) none_beside) ≡ goes (state_of h (having_done (d''.unread.bytes ++ []) a.written a.told d''.hears.place none_beside))
stepped_to image settings cycle f h d' d'' a = a.same closed [] none_beside (λ ended. (refl, refl))

pub ready_on : (image : Image) (settings : RunSettings) (cycle : List ℕ) (f h : Execution) (d' d'' : Devices) → IsVerified image → IsReady image f → Advances (does image settings cycle) (begun f) h d' d'' None → SameRows f.space h.space → IsReady image h
ready_on image settings cycle f h d' d'' v ready a rows =
    let stays = step_placed (setup image settings cycle closed) (reading f d'.hears.place (d'.unread.bytes ++ (a.read ++ [])) none_beside) (state_of h (having_done (d''.unread.bytes ++ []) a.written a.told d''.hears.place none_beside)) v ready.placed (stepped_to image settings cycle f h d' d'' a) in
    record { rows = rows.functions ∙ ready.rows; statics = rows.statics ∙ ready.statics; placed = stays.placed; numbered = omega (arith, stays.numbered, ready.numbered) }

pub counted_on : (image : Image) (settings : RunSettings) (cycle : List ℕ) (f h : Execution) (d' d'' : Devices) → Advances (does image settings cycle) (begun f) h d' d'' None → h.instructions ≡ f.instructions + 1
counted_on image settings cycle f h d' d'' a =
    let s = reading f d'.hears.place (d'.unread.bytes ++ (a.read ++ [])) none_beside in
    (subst (tells.Tells closed (counted s)) (stepped_to image settings cycle f h d' d'' a) (tells.act_on (setup image settings cycle closed) (slice_get image.code f.counter) (counted s))).instructions
