-- What had been sent before the last read, while a run goes on and where its sink fails.
use Rattle.std.proofs.Common.{◌≡◌, ◌≢◌, ℕ, ◌⊎◌, List, [], ◌∷◌, ◌++◌, take, drop, Option, refl, sym, ap, ◌∙◌, subst, arith, append_assoc, inl, inr}
use Rattle.std.specs.Io.KnownBytes.{append_known}
use Rattle.std.proofs.lemmas.List.{append-nil, take-append-drop}
use Rattle.ob_base.specs.Sink.{Tally, TakesPrefix, tally_known}
use Rattle.ob_base.proofs.Appending.{append_known-nil, append_known-then, tally_known-nil, tally_known-then}
use Rattle.ob_model.specs.Endings.{InputEnd, failed}
use Rattle.ob_code.specs.State.{Final, Next, State}
use Rattle.ob_machine.specs.declared.execution.Execution.{Execution}
use Rattle.ob_machine.specs.Buffers.{SentOrPending}
use Rattle.ob_machine.specs.Exchanges.{CutAfterRead, Devices, EndsAtRead, LastRead, NeedsLast, NeedsRead, reading}
use Rattle.ob_machine.specs.Executions.{Beside}
use Rattle.ob_machine.proofs.Sent.{flush_prefix, sent_then}
use Rattle.ob_machine.proofs.WholeRuns.{begins_then}

pub none_or_some : (xs : List ℕ) → (xs ≡ []) ⊎ (xs ≢ [])
none_or_some [] = inl refl
none_or_some (x ∷ xs) = inr (λ e. cc)

-- nothing was read
pub none_read : (run : InputEnd → State → Final) (e : Execution) (d : Devices) → LastRead run e d d [] []
none_read run e d =
    record {
      before = [];
      last = [];
      read_is = refl;
      few = omega arith;
      none = λ h. refl;
      first = [];
      behind = d.pending ++ [];
      written_is = refl;
      sent = record {
        sent = [];
        took = sym (append_known-nil (append_known d.taken []) ∙ append_known-nil d.taken);
        tallied = sym (tally_known-nil (tally_known d.tally []) ∙ tally_known-nil d.tally);
        rest = sym (append-nil d.pending);
      };
      needs = λ some. absurd (some refl);
    }

-- bytes were put after the last read
pub put_after : (run : InputEnd → State → Final) (e : Execution) (d d' d'' : Devices) (read written written' : List ℕ) → LastRead run e d d' read written → SentOrPending d'.taken d''.taken d'.tally d''.tally d''.pending (d'.pending ++ written') → LastRead run e d d'' read (written ++ written')
put_after run e d d' d'' read written written' l s =
    record {
      before = l.before;
      last = l.last;
      read_is = l.read_is;
      few = l.few;
      none = l.none;
      first = l.first;
      behind = l.behind ++ written';
      written_is = sym (append_assoc l.first l.behind written') ∙ ap (λ xs. xs ++ written') l.written_is ∙ append_assoc d.pending written written';
      sent = sent_then (append_known d.taken l.first) d'.taken d''.taken (tally_known d.tally l.first) d'.tally d''.tally d'.pending d''.pending l.behind written' l.sent s;
      needs = l.needs;
    }

-- bytes were read, and all that was put before had been sent
pub read_last : (run : InputEnd → State → Final) (does : InputEnd → State → Next) (e f : Execution) (d d' d'' : Devices) (read written read' written' : List ℕ) → SentOrPending d.taken d'.taken d.tally d'.tally d'.pending (d.pending ++ written) → read' ≢ [] → NeedsRead does f d' d'' read' written' → ((b : Beside) → EndsAtRead (run failed (reading e d.hears.place (d.unread.bytes ++ read) b)) (b.output ++ written)) → LastRead run e d d'' (read ++ read') (written ++ written')
read_last run does e f d d' d'' read written read' written' s some n fails =
    let took : append_known d'.taken d'.pending ≡ append_known d.taken (d.pending ++ written) =
    ap (λ t. append_known t d'.pending) s.took ∙ append_known-then d.taken s.sent d'.pending ∙ ap (append_known d.taken) s.rest in
    let tallied : tally_known d'.tally d'.pending ≡ tally_known d.tally (d.pending ++ written) =
    ap (λ c. tally_known c d'.pending) s.tallied ∙ tally_known-then d.tally s.sent d'.pending ∙ ap (tally_known d.tally) s.rest in
    record {
      before = read;
      last = read';
      read_is = refl;
      few = n.few;
      none = λ h. absurd (some h);
      first = d.pending ++ written;
      behind = written';
      written_is = append_assoc d.pending written written';
      sent = record {
        sent = n.sent.sent;
        took = n.sent.took ∙ ap (λ t. append_known t n.sent.sent) took;
        tallied = n.sent.tallied ∙ ap (λ c. tally_known c n.sent.sent) tallied;
        rest = n.sent.rest;
      };
      needs = λ h. record { out = written; begins = ([], sym (append-nil (d.pending ++ written))); fails = fails };
    }

-- the sink failed at what was pending
pub cut_last : (run : InputEnd → State → Final) (e : Execution) (d d' : Devices) (taken : Option (List ℕ)) (tally : Option Tally) (read written : List ℕ) → LastRead run e d d' read written → TakesPrefix d'.taken taken d'.tally tally d'.pending → CutAfterRead run e d taken tally read written
cut_last run e d d' taken tally read written l p =
    let q = flush_prefix (append_known d.taken l.first) d'.taken taken (tally_known d.tally l.first) d'.tally tally d'.pending l.behind l.sent p in
    let piece = take q.0 l.behind in
    record {
      before = l.before;
      last = l.last;
      read_is = l.read_is;
      few = l.few;
      none = l.none;
      sent = l.first ++ piece;
      took = q.1.0 ∙ append_known-then d.taken l.first piece;
      tallied = q.1.1 ∙ tally_known-then d.tally l.first piece;
      begins = (drop q.0 l.behind, sym l.written_is ∙ ap (λ xs. l.first ++ xs) (sym (take-append-drop q.0 l.behind)) ∙ sym (append_assoc l.first piece (drop q.0 l.behind)));
      needs = λ some. let n = l.needs some in record { out = n.out; begins = begins_then (d.pending ++ n.out) l.first (l.first ++ piece) n.begins (piece, refl); fails = n.fails };
    }

-- a run that goes as another one
module _ (run told : InputEnd → State → Final) (e f : Execution) (d : Devices) (is : (input : List ℕ) (b : Beside) → told failed (reading e d.hears.place input b) ≡ run failed (reading f d.hears.place input b)) where
  needs_as : (before sent : List ℕ) → NeedsLast run f d before sent → NeedsLast told e d before sent
  needs_as before sent n =
      record { out = n.out; begins = n.begins; fails = λ b. subst (λ x. EndsAtRead x (b.output ++ n.out)) (sym (is (d.unread.bytes ++ before) b)) (n.fails b) }

  pub last_as : (d' : Devices) (read written : List ℕ) → LastRead run f d d' read written → LastRead told e d d' read written
  last_as d' read written l =
      record {
        before = l.before;
        last = l.last;
        read_is = l.read_is;
        few = l.few;
        none = l.none;
        first = l.first;
        behind = l.behind;
        written_is = l.written_is;
        sent = l.sent;
        needs = λ some. needs_as l.before l.first (l.needs some);
      }

  pub cut_as : (taken : Option (List ℕ)) (tally : Option Tally) (read written : List ℕ) → CutAfterRead run f d taken tally read written → CutAfterRead told e d taken tally read written
  cut_as taken tally read written c =
      record {
        before = c.before;
        last = c.last;
        read_is = c.read_is;
        few = c.few;
        none = c.none;
        sent = c.sent;
        took = c.took;
        tallied = c.tallied;
        begins = c.begins;
        needs = λ some. needs_as c.before c.sent (c.needs some);
      }
