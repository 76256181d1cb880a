-- Where a run comes to, from what its loop answers.
use Rattle.std.proofs.Common.{◌≡◌, ℕ, ◌≤◌, List, [], ◌++◌, map, Option, Some, None, refl, sym, ap, ◌∙◌, subst, arith}
use Rattle.std.specs.Io.KnownBytes.{append_known, prepend_known, IsAtEnd}
use Rattle.std.proofs.lemmas.List.{append-nil}
use Rattle.ob_base.specs.Faults.{Rose}
use Rattle.ob_base.specs.Sink.{Tally, TakesPrefix, tally_known}
use Rattle.ob_base.proofs.Appending.{append_known-nil, append_known-then, tally_known-nil, tally_known-then}
use Rattle.ob_model.specs.declared.endings.Ending.{Ending}
use Rattle.ob_model.specs.declared.endings.Ending.TheVariants.{NoMemory, ReadFault, WriteFault}
use Rattle.ob_model.specs.declared.strays.StrayEvent.{StrayEvent}
use Rattle.ob_model.specs.Endings.{Begins, InputEnd, closed, failed}
use Rattle.ob_code.specs.State.{Final, State}
use Rattle.ob_watch.specs.Watching.{after_events}
use Rattle.ob_machine.specs.declared.execution.Execution.{Execution}
use Rattle.ob_machine.specs.Buffers.{Unread}
use Rattle.ob_base.specs.Devices.{AreTold, Reading, Writing, IsWritten}
use Rattle.ob_machine.specs.Exchanges.{CanFollow, CutAfterRead, Devices, EndsAtRead, Foreshows, KnowsEnd, RunEnds, RunFailsToRead, RunFailsToWrite, RunLacksMemory, having_done, reading}
use Rattle.ob_machine.specs.Executions.{state_of}
use Rattle.ob_machine.specs.Finished.{ComesOut, Flushed, at_start, ended, broken, starved}
use Rattle.ob_machine.specs.Hearing.{Audience}
use Rattle.ob_machine.specs.Machines.{Hearing}
use Rattle.ob_machine.specs.Buffers.{SentOrPending}
use Rattle.ob_machine.proofs.Flushed.{cut_last}
use Rattle.ob_machine.proofs.Sent.{flush_prefix, sent_prefix}
use Rattle.ob_machine.proofs.WholeRuns.{begins_then}
use Rattle.ob_machine.proofs.Told.{store_begins}

-- what a source still has, where it tells it
abbrev rest_of : Option (List ℕ) → List ℕ
rest_of None = []
rest_of (Some xs) = xs

told_rest : (left : Option (List ℕ)) → AreTold left (rest_of left)
told_rest None = tt
told_rest (Some xs) = refl

end_rest : (left : Option (List ℕ)) → IsAtEnd left → rest_of left ≡ []
end_rest None h = refl
end_rest (Some xs) h = h

can_rest : (u : Unread) (left : Option (List ℕ)) → KnowsEnd u left → CanFollow u (rest_of left) closed
can_rest u left knows = λ ended. (end_rest left (knows ended), refl)

-- what was sent, and then what was pending
all_sent : (t0 t1 t2 : Option (List ℕ)) (c0 c1 c2 : Option Tally) (f0 f2 : ℕ) (pending bytes written : List ℕ) → bytes ≡ written → SentOrPending t0 t1 c0 c1 pending bytes → t2 ≡ append_known t1 pending → c2 ≡ tally_known c1 pending → f2 ≡ f0 → IsWritten (record { taken_before = t0; taken_now = t2; tally_before = c0; tally_now = c2; faults_before = f0; faults_now = f2 }) written
all_sent t0 t1 t2 c0 c1 c2 f0 f2 pending bytes written is s took tallied quiet =
    record {
      took = took ∙ ap (λ t. append_known t pending) s.took ∙ append_known-then t0 s.sent pending ∙ ap (append_known t0) (s.rest ∙ is);
      tallied = tallied ∙ ap (λ c. tally_known c pending) s.tallied ∙ tally_known-then c0 s.sent pending ∙ ap (tally_known c0) (s.rest ∙ is);
      quiet = quiet;
    }

-- what a maker and the watchers tell before and after
abbrev pub hearing : Audience → Audience → Hearing
hearing h h' = record { cycle = h.cycle; place_before = h.place; place_now = h'.place; seen_before = h.seen; seen_now = h'.seen }

module _ (run : InputEnd → State → Final) (e f : Execution) (d d' : Devices) (unread : d.unread.bytes ≡ []) (clean : d.pending ≡ []) where
  abbrev pub reads : Reading
  reads = record { left_before = d.left; left_now = d'.left; faults_before = d.read_faults; faults_now = d'.read_faults }

  abbrev pub heard : Hearing
  heard = hearing d.hears d'.hears

  abbrev place : ℕ
  place = d.hears.place

  written_all : (written : List ℕ) → d.pending ++ written ≡ written
  written_all written = ap (λ xs. xs ++ written) clean

  -- the run on what was read and what is left
  ended_is : (answer : Ending) (a : RunEnds run e f d d' answer) → run closed (state_of e (at_start (a.read ++ rest_of d'.left) place)) ≡ record { ending = answer; state = state_of f (having_done (d'.unread.bytes ++ rest_of d'.left) a.written a.told d'.hears.place (at_start (a.read ++ rest_of d'.left) place)) }
  ended_is answer a =
      let b = at_start (a.read ++ rest_of d'.left) place in
      ap (λ xs. run closed (reading e place (xs ++ (a.read ++ rest_of d'.left)) b)) (sym unread) ∙ a.same closed (rest_of d'.left) b (can_rest d'.unread d'.left a.moves.knows_end)

  -- a run whose sink failed, from its start
  cut_is : (read written : List ℕ) (taken : Option (List ℕ)) (tally : Option Tally) (faults : ℕ) → d.left ≡ prepend_known read d'.left → d'.read_faults ≡ d.read_faults → CutAfterRead run e d taken tally read written → Begins written (run closed (state_of e (at_start (read ++ rest_of d'.left) place))).state.output → Flushed run e place reads (record { taken_before = d.taken; taken_now = taken; tally_before = d.tally; tally_now = tally; faults_before = d.write_faults; faults_now = faults })
  cut_is read written taken tally faults was quiet c begins =
      record {
        input = read ++ rest_of d'.left;
        whole = record { read = read; unread = rest_of d'.left; input_is = refl; was = was; told = told_rest d'.left; quiet = quiet };
        before = c.before;
        last = c.last;
        read = c.read_is;
        few = c.few;
        none = c.none;
        sent = c.sent;
        took = c.took;
        tallied = c.tallied;
        output = begins_then c.sent written _ (subst (λ xs. Begins c.sent xs) (written_all written) c.begins) begins;
        waiting = λ some.
            let n = c.needs some in
            let b = at_start c.before place in
            let f = subst (λ xs. EndsAtRead (run failed (reading e place (xs ++ c.before) b)) n.out) unread (n.fails b) in
            record { ending = f.0; output = subst (λ xs. Begins xs c.sent) (written_all n.out ∙ sym f.1) n.begins };
      }

  pub came_ended : (answer : Ending) (taken : Option (List ℕ)) (tally : Option Tally) (faults : ℕ) → RunEnds run e f d d' answer → taken ≡ append_known d'.taken d'.pending → tally ≡ tally_known d'.tally d'.pending → faults ≡ d'.write_faults → ComesOut run e f reads (record { taken_before = d.taken; taken_now = taken; tally_before = d.tally; tally_now = tally; faults_before = d.write_faults; faults_now = faults }) heard answer
  came_ended answer taken tally faults a took tallied quiet =
      let final = ended_is answer a in
      let w : Writing = record { taken_before = d.taken; taken_now = taken; tally_before = d.tally; tally_now = tally; faults_before = d.write_faults; faults_now = faults } in
      record {
        input = a.read ++ rest_of d'.left;
        input_end = closed;
        is_input = record { read = a.read; unread = rest_of d'.left; input_is = refl; was = a.moves.was_left; told = told_rest d'.left; quiet = a.moves.read_quiet };
        comes = ended (record {
          ending = ap (λ x. x.ending) (sym final);
          output = subst (λ x. IsWritten w x.state.output) (sym final) (all_sent d.taken d'.taken taken d.tally d'.tally tally d.write_faults faults d'.pending (d.pending ++ a.written) a.written (written_all a.written) a.moves.sent took tallied (quiet ∙ a.moves.write_quiet));
          place = ap (λ x. x.state.cycle_place) (sym final);
          events = a.moves.heard.seen ∙ ap (λ x. map (after_events x.state.events) d.hears.seen) (sym final);
          space = ap (λ x. x.state.space) (sym final);
          instructions = ap (λ x. x.state.instructions) (sym final);
        });
      }

  pub came_cut : (answer : Ending) (taken : Option (List ℕ)) (tally : Option Tally) (faults : ℕ) → RunEnds run e f d d' answer → TakesPrefix d'.taken taken d'.tally tally d'.pending → Rose d'.write_faults faults → ComesOut run e f reads (record { taken_before = d.taken; taken_now = taken; tally_before = d.tally; tally_now = tally; faults_before = d.write_faults; faults_now = faults }) heard WriteFault
  came_cut answer taken tally faults a took cause =
      let final = ended_is answer a in
      let cut = cut_last run e d d' taken tally a.read a.written a.last_read took in
      record {
        input = a.read ++ rest_of d'.left;
        input_end = closed;
        is_input = record { read = a.read; unread = rest_of d'.left; input_is = refl; was = a.moves.was_left; told = told_rest d'.left; quiet = a.moves.read_quiet };
        comes = broken
            (record {
              ending = refl;
              output = record {
                took = subst (λ x. TakesPrefix d.taken taken d.tally tally x.state.output) (sym final) (subst (λ bytes. TakesPrefix d.taken taken d.tally tally bytes) (written_all a.written) (flush_prefix d.taken d'.taken taken d.tally d'.tally tally d'.pending (d.pending ++ a.written) a.moves.sent took));
                cause = subst (λ k. Rose k faults) a.moves.write_quiet cause;
              };
              told = record { told = a.told; begins = subst (λ x. Begins a.told x.state.events) (sym final) ([], sym (append-nil a.told)); seen = a.moves.heard.seen };
              instructions = let same = ap (λ x. x.state.instructions) final in omega (arith, same);
            })
            (cut_is a.read a.written taken tally faults a.moves.was_left a.moves.read_quiet cut (subst (λ x. Begins a.written x.state.output) (sym final) ([], sym (append-nil a.written))));
      }

  pub came_read : RunFailsToRead run e f d d' → ComesOut run e f reads (record { taken_before = d.taken; taken_now = d'.taken; tally_before = d.tally; tally_now = d'.tally; faults_before = d.write_faults; faults_now = d'.write_faults }) heard ReadFault
  came_read a =
      let b = at_start a.read place in
      let final = ap (λ xs. run failed (reading e place (xs ++ a.read) b)) (sym unread) ∙ a.same b in
      let w : Writing = record { taken_before = d.taken; taken_now = d'.taken; tally_before = d.tally; tally_now = d'.tally; faults_before = d.write_faults; faults_now = d'.write_faults } in
      record {
        input = a.read;
        input_end = failed;
        is_input = record { was = a.was_left; cause = a.cause };
        comes = ended (record {
          ending = ap (λ x. x.ending) (sym final);
          output = subst (λ x. IsWritten w x.state.output) (sym final) (all_sent d.taken d'.taken d'.taken d.tally d'.tally d'.tally d.write_faults d'.write_faults [] (d.pending ++ a.written) a.written (written_all a.written) a.sent (sym (append_known-nil d'.taken)) (sym (tally_known-nil d'.tally)) a.write_quiet);
          place = ap (λ x. x.state.cycle_place) (sym final);
          events = a.heard.seen ∙ ap (λ x. map (after_events x.state.events) d.hears.seen) (sym final);
          space = ap (λ x. x.state.space) (sym final);
          instructions = ap (λ x. x.state.instructions) (sym final);
        });
      }

  -- a prefix of what was written until then
  begun_prefix : (taken : Option (List ℕ)) (tally : Option Tally) (written output : List ℕ) → Begins written output → TakesPrefix d.taken taken d.tally tally written → TakesPrefix d.taken taken d.tally tally output
  begun_prefix taken tally written output begins took =
      subst (λ bytes. TakesPrefix d.taken taken d.tally tally bytes) (sym begins.1)
      (sent_prefix d.taken d.taken taken d.tally d.tally tally [] [] written begins.0 (record { sent = []; took = sym (append_known-nil d.taken); tallied = sym (tally_known-nil d.tally); rest = refl }) took)

  -- what was told until then is a prefix of the run's events
  told_until : (told : List StrayEvent) (last : Unread) (read written : List ℕ) → KnowsEnd last d'.left → Foreshows run e f d last read written told → Begins told (run closed (state_of e (at_start (read ++ rest_of d'.left) place))).state.events
  told_until told last read written knows shown =
      let b = at_start (read ++ rest_of d'.left) place in
      subst (λ xs. Begins told (run closed (reading e place (xs ++ (read ++ rest_of d'.left)) b)).state.events) unread (shown.events closed (rest_of d'.left) b (can_rest last d'.left knows))

  written_until : (told : List StrayEvent) (last : Unread) (read written : List ℕ) → KnowsEnd last d'.left → Foreshows run e f d last read written told → Begins written (run closed (state_of e (at_start (read ++ rest_of d'.left) place))).state.output
  written_until told last read written knows shown =
      let b = at_start (read ++ rest_of d'.left) place in
      subst (λ xs. Begins written (run closed (reading e place (xs ++ (read ++ rest_of d'.left)) b)).state.output) unread (shown.output closed (rest_of d'.left) b (can_rest last d'.left knows))

  counted_until : (told : List StrayEvent) (last : Unread) (read written : List ℕ) → KnowsEnd last d'.left → Foreshows run e f d last read written told → f.instructions ≤ (run closed (state_of e (at_start (read ++ rest_of d'.left) place))).state.instructions
  counted_until told last read written knows shown =
      let b = at_start (read ++ rest_of d'.left) place in
      subst (λ xs. f.instructions ≤ (run closed (reading e place (xs ++ (read ++ rest_of d'.left)) b)).state.instructions) unread (shown.instructions closed (rest_of d'.left) b (can_rest last d'.left knows))

  pub came_write : RunFailsToWrite run e f d d' → ComesOut run e f reads (record { taken_before = d.taken; taken_now = d'.taken; tally_before = d.tally; tally_now = d'.tally; faults_before = d.write_faults; faults_now = d'.write_faults }) heard WriteFault
  came_write a =
      let begins = written_until a.told a.last a.read a.written a.knows_end a.begins in
      record {
        input = a.read ++ rest_of d'.left;
        input_end = closed;
        is_input = record { read = a.read; unread = rest_of d'.left; input_is = refl; was = a.was_left; told = told_rest d'.left; quiet = a.read_quiet };
        comes = broken
            (record {
              ending = refl;
              output = record {
                took = begun_prefix d'.taken d'.tally a.written _ begins (subst (λ bytes. TakesPrefix d.taken d'.taken d.tally d'.tally bytes) (written_all a.written) a.took);
                cause = a.cause;
              };
              told = record { told = a.told; begins = told_until a.told a.last a.read a.written a.knows_end a.begins; seen = a.heard.seen };
              instructions = counted_until a.told a.last a.read a.written a.knows_end a.begins;
            })
            (cut_is a.read a.written d'.taken d'.tally d'.write_faults a.was_left a.read_quiet a.cut begins);
      }

  pub came_starved : RunLacksMemory run e f d d' → ComesOut run e f reads (record { taken_before = d.taken; taken_now = d'.taken; tally_before = d.tally; tally_now = d'.tally; faults_before = d.write_faults; faults_now = d'.write_faults }) heard NoMemory
  came_starved a =
      let begins = written_until a.told a.last a.read a.written a.knows_end a.begins in
      let told = told_until a.told a.last a.read a.written a.knows_end a.begins in
      record {
        input = a.read ++ rest_of d'.left;
        input_end = closed;
        is_input = record { read = a.read; unread = rest_of d'.left; input_is = refl; was = a.was_left; told = told_rest d'.left; quiet = a.read_quiet };
        comes = starved (record {
          ending = refl;
          boundless = a.boundless;
          store = store_begins a.told _ a.store told;
          output = record {
            took = begun_prefix d'.taken d'.tally a.written _ begins (subst (λ bytes. TakesPrefix d.taken d'.taken d.tally d'.tally bytes) (written_all a.written) a.took);
            quiet = a.write_quiet;
          };
          told = record { told = a.told; begins = told; seen = a.heard.seen };
          instructions = counted_until a.told a.last a.read a.written a.knows_end a.begins;
        });
      }
