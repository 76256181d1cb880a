-- What goes through the buffers: nothing, a byte, and one exchange after another.
use Rattle.std.proofs.Common.{◌≡◌, ◌≢◌, ℕ, ◌-◌, ◌%◌, ◌^◌, ◌≤◌, Bool, true, false, List, [], ◌∷◌, ◌++◌, length, Option, Some, None, Result, Ok, Err, refl, sym, ap, ◌∙◌, subst, append_assoc}
use Rattle.std.specs.Prelude.{MatchBool, MatchOption}
use Rattle.std.specs.Io.KnownBytes.{append_known, prepend_known, IsAtEnd}
use Rattle.std.proofs.lemmas.List.{append-nil, append_cancel_left}
use Rattle.ob_base.specs.Sink.{tally_known}
use Rattle.ob_base.proofs.Appending.{append_known-nil, tally_known-nil}
use Rattle.ob_model.specs.declared.endings.Ending.{Ending}
use Rattle.ob_model.specs.declared.endings.Ending.TheVariants.{ReadFault, Steps}
use Rattle.ob_model.specs.declared.strays.StrayEvent.{StrayEvent}
use Rattle.ob_model.specs.Endings.{InputEnd, closed, failed}
use Rattle.ob_code.specs.declared.image.Image.{Image}
use Rattle.ob_code.specs.Machine.{get_char, set_word, ticked}
use Rattle.ob_code.specs.State.{Next, Setup, State, goes, stops}
use Rattle.ob_machine.specs.declared.execution.Execution.{Execution}
use Rattle.ob_machine.specs.declared.ports.Fault.{Fault}
use Rattle.ob_machine.specs.declared.ports.Fault.TheVariants.{Read, Write, Memory}
use Rattle.ob_machine.specs.Buffers.{IsUsedUp, SentOrPending, Unread}
use Rattle.ob_machine.specs.Executions.{Beside, Is, setup, state_of, word_of_byte}
use Rattle.ob_machine.specs.Hearing.{Audience, GoesOnTelling, Heard, HeardOrLacks, Hears, Lacks}
use Rattle.ob_machine.specs.Exchanges.{Advances, Answers, CanFollow, Devices, FailsToGet, IsRefilled, KnowsEnd, LacksMemory, Moves, NeedsRead, Puts, Refills, having_done, reading}
use Rattle.ob_machine.proofs.Handed.{ticked_once}
use Rattle.ob_machine.proofs.Sent.{sent_none}
use Rattle.ob_machine.proofs.Told.{told_none}

prepend-nil : (known : Option (List ℕ)) → known ≡ prepend_known [] known
prepend-nil None = refl
prepend-nil (Some xs) = refl

pub none_heard : (h : Audience) → Hears h h []
none_heard h = record { cycle = refl; seen = told_none h.seen }

-- nothing was read, written and told
pub still : (d : Devices) → KnowsEnd d.unread d.left → Moves d d [] [] []
still d knows = record { was_left = prepend-nil d.left; knows_end = knows; ended = λ h. (refl, h); read_quiet = refl; sent = sent_none d.taken d.tally d.pending; write_quiet = refl; heard = none_heard d.hears }

-- what stands beside, where nothing was written, and nothing was told
pub unwritten : (input : List ℕ) (told : List StrayEvent) (place : ℕ) (b : Beside) → record { input = input; output = b.output; events = b.events ++ told; cycle_place = place } ≡ having_done input [] told place b
unwritten input told place b = λ i. record { input = input; output = sym (append-nil b.output) i; events = b.events ++ told; cycle_place = place }

untold : (input written : List ℕ) (place : ℕ) (b : Beside) → record { input = input; output = b.output ++ written; events = b.events; cycle_place = place } ≡ having_done input written [] place b
untold input written place b = ap (λ events. record { input = input; output = b.output ++ written; events = events; cycle_place = place }) (sym (append-nil b.events))

quiet_beside : (input : List ℕ) (place : ℕ) (b : Beside) → record b { input = input; cycle_place = place } ≡ having_done input [] [] place b
quiet_beside input place b = λ i. record { input = input; output = sym (append-nil b.output) i; events = sym (append-nil b.events) i; cycle_place = place }

pub nothing_done : (e : Execution) (place : ℕ) (input : List ℕ) (b : Beside) → reading e place input b ≡ state_of e (having_done input [] [] place b)
nothing_done e place input b = ap (state_of e) (quiet_beside input place b)

ticked_none : (left : ℕ) (s : State) (k : State → Next) → left ≡ 0 → ticked left s k ≡ stops Steps s
ticked_none left s k none = ap (λ n. ticked n s k) none

-- where no step is left
pub no_step : (does : InputEnd → State → Next) (k : InputEnd → State → Next) (e : Execution) (d : Devices) → ((input_end : InputEnd) (s : State) → does input_end s ≡ ticked s.steps s (k input_end)) → e.steps ≡ 0 → KnowsEnd d.unread d.left → Advances does e e d d (Some Steps)
no_step does k e d is none knows =
    record {
      read = [];
      written = [];
      told = [];
      moves = still d knows;
      needs = λ some. absurd (some refl);
      same = λ input_end more b can.
          is input_end (reading e d.hears.place (d.unread.bytes ++ more) b)
          ∙ ticked_none e.steps (reading e d.hears.place (d.unread.bytes ++ more) b) (k input_end) none
          ∙ ap (stops Steps) (nothing_done e d.hears.place (d.unread.bytes ++ more) b);
    }

-- some bytes were read, 4,096 at most, when all that was pending had been sent
pub record IsSentAndRead (d d' : Devices) (read : List ℕ) : Type 0 where
  pub few : length read ≤ 4096
  pub sent : SentOrPending (append_known d.taken d.pending) d'.taken (tally_known d.tally d.pending) d'.tally d'.pending []

refilled_sent : (d d' : Devices) → IsRefilled d d' → IsSentAndRead d d' d'.unread.bytes
refilled_sent d d' r =
    let s = r.moves.sent in
    let all : s.sent ≡ d.pending = sym (append-nil s.sent) ∙ ap (λ xs. s.sent ++ xs) (sym r.nothing_pending) ∙ s.rest ∙ append-nil d.pending in
    record {
      few = r.few;
      sent = record {
        sent = [];
        took = s.took ∙ ap (append_known d.taken) all ∙ sym (append_known-nil (append_known d.taken d.pending));
        tallied = s.tallied ∙ ap (tally_known d.tally) all ∙ sym (tally_known-nil (tally_known d.tally d.pending));
        rest = r.nothing_pending;
      };
    }

-- the buffer has a byte, or the end was met
pub record HasNext (d d' : Devices) : Type 0 where
  pub read : List ℕ
  pub moves : Moves d d' read [] []
  pub hears : d'.hears ≡ d.hears
  pub joined : d.unread.bytes ++ read ≡ d'.unread.bytes
  pub refilled : read ≢ [] → IsUsedUp d.unread × IsSentAndRead d d' read
  pub ended : d'.unread.bytes ≡ [] → d'.unread.at_end ≡ true

filled_end : (b : Bool) (bytes : List ℕ) (left : Option (List ℕ)) → MatchBool b ((bytes ≡ []) × IsAtEnd left) (bytes ≢ []) → bytes ≡ [] → b ≡ true
filled_end true bytes left h e = refl
filled_end false bytes left h e = absurd (h e)

pub refilled_next : (d d' : Devices) → IsUsedUp d.unread → IsRefilled d d' → HasNext d d'
refilled_next d d' used r =
    record {
      read = d'.unread.bytes;
      moves = r.moves;
      hears = r.hears;
      joined = ap (λ xs. xs ++ d'.unread.bytes) used.none;
      refilled = λ some. (used, refilled_sent d d' r);
      ended = filled_end d'.unread.at_end d'.unread.bytes d'.left r.filled;
    }

not_used : (b : Bool) (bytes : List ℕ) → ¬ IsUsedUp (record { bytes = bytes; at_end = b }) → bytes ≡ [] → b ≡ true
not_used true bytes h e = refl
not_used false bytes h e = absurd (h (record { none = e; more = refl }))

pub still_next : (d : Devices) → KnowsEnd d.unread d.left → ¬ IsUsedUp d.unread → HasNext d d
still_next d knows h =
    record { read = []; moves = still d knows; hears = refl; joined = append-nil d.unread.bytes; refilled = λ some. absurd (some refl); ended = not_used d.unread.at_end d.unread.bytes h }

byte_taken : (input_end : InputEnd) (byte : ℕ) (rest : List ℕ) (a : ℕ) (t : State) → get_char input_end (byte ∷ rest) a t ≡ set_word (record t { input = rest }) a (byte % 256)
byte_taken closed byte rest a t = refl
byte_taken failed byte rest a t = refl

-- the run with one step less
abbrev pub stepped : Execution → Execution
stepped e = record e { steps = e.steps - 1 }

-- the next byte of the buffer
abbrev pub Takes : Unread → Unread → Option ℕ → Type 0
Takes u v byte = (v.at_end ≡ u.at_end) × MatchOption byte ((u.bytes ≡ []) × (v.bytes ≡ [])) (λ b. u.bytes ≡ b ∷ v.bytes)

taken_is : (u v : Unread) (byte : Option ℕ) (e : Execution) (place a : ℕ) (input_end : InputEnd) (more : List ℕ) (b : Beside) → Takes u v byte → (u.bytes ≡ [] → u.at_end ≡ true) → CanFollow v more input_end → get_char input_end (u.bytes ++ more) a (reading e place (u.bytes ++ more) b) ≡ set_word (reading e place (v.bytes ++ more) b) a (word_of_byte byte)
taken_is u v None e place a input_end more b takes ended can =
    let none = can (takes.0 ∙ ended takes.1.0) in
    let input : u.bytes ++ more ≡ [] = (λ i. takes.1.0 i ++ none.0 i) in
    let rest : [] ≡ v.bytes ++ more = sym (λ i. takes.1.1 i ++ none.0 i) in
    (λ i. get_char (none.1 i) (input i) a (reading e place (input i) b)) ∙ ap (λ xs. set_word (reading e place xs b) a (2 ^ 64 - 1)) rest
taken_is u v (Some byte) e place a input_end more b takes ended can =
    ap (λ xs. get_char input_end (xs ++ more) a (reading e place (xs ++ more) b)) takes.1 ∙ byte_taken input_end byte (v.bytes ++ more) a (reading e place (byte ∷ (v.bytes ++ more)) b)

-- bytes could not be had
pub refill_fails : (does : InputEnd → State → Next) (e : Execution) (d d' : Devices) (a : ℕ) (fault : Fault) → ((input_end : InputEnd) (s : State) → does input_end s ≡ ticked s.steps s (λ t. get_char input_end t.input a t)) → (e.steps ≡ 0 → ⊥) → IsUsedUp d.unread → Refills d d' (Err fault) → Answers does e (stepped e) d d' (Err fault)
refill_fails does e d d' a Read is some used r =
    record {
      none = used.none;
      more = used.more;
      refill = r;
      same = λ b.
          is failed (reading e d.hears.place [] b)
          ∙ ticked_once e.steps (reading e d.hears.place [] b) (λ t. get_char failed t.input a t) some
          ∙ ap (λ h. stops ReadFault (reading (stepped e) h.place [] b)) (sym r.hears);
    }
refill_fails does e d d' a Write is some used r = record { refill = r; instructions = refl }
refill_fails does e d d' a Memory is some used r = absurd r

pub got_char : (does : InputEnd → State → Next) (e f : Execution) (d d' : Devices) (v : Unread) (byte : Option ℕ) (a w : ℕ) → ((input_end : InputEnd) (s : State) → does input_end s ≡ ticked s.steps s (λ t. get_char input_end t.input a t)) → (e.steps ≡ 0 → ⊥) → HasNext d d' → Takes d'.unread v byte → w ≡ word_of_byte byte → ((b : Beside) → set_word (state_of (stepped e) b) a w ≡ goes (state_of f b)) → Advances does e f d (record d' { unread = v }) None
got_char does e f d d' v byte a w is some next takes word set =
    record {
      read = next.read;
      written = [];
      told = [];
      moves = record { was_left = next.moves.was_left; knows_end = λ h. next.moves.knows_end (sym takes.0 ∙ h); ended = λ h. let m = next.moves.ended h in (m.0, takes.0 ∙ m.1); read_quiet = next.moves.read_quiet; sent = next.moves.sent; write_quiet = next.moves.write_quiet; heard = next.moves.heard };
      needs = needs;
      same = same;
    }
  where
    needs : next.read ≢ [] → NeedsRead does e d (record d' { unread = v }) next.read []
    needs read =
        let n = next.refilled read in
        record {
          none = n.0.none;
          more = n.0.more;
          few = n.1.few;
          fails = λ b. (reading (stepped e) d.hears.place [] b, is failed (reading e d.hears.place [] b) ∙ ticked_once e.steps (reading e d.hears.place [] b) (λ t. get_char failed t.input a t) some, refl);
          sent = n.1.sent;
        }

    same : (input_end : InputEnd) (more : List ℕ) (b : Beside) → CanFollow v more input_end → does input_end (reading e d.hears.place (d.unread.bytes ++ (next.read ++ more)) b) ≡ goes (state_of f (having_done (v.bytes ++ more) [] [] d'.hears.place b))
    same input_end more b can =
        let place = d.hears.place in
        let input : d.unread.bytes ++ (next.read ++ more) ≡ d'.unread.bytes ++ more = sym (append_assoc d.unread.bytes next.read more) ∙ ap (λ xs. xs ++ more) next.joined in
        is input_end (reading e place (d.unread.bytes ++ (next.read ++ more)) b)
        ∙ ticked_once e.steps (reading e place (d.unread.bytes ++ (next.read ++ more)) b) (λ t. get_char input_end t.input a t) some
        ∙ ap (λ xs. get_char input_end xs a (reading (stepped e) place xs b)) input
        ∙ taken_is d'.unread v byte (stepped e) place a input_end more b takes next.ended can
        ∙ ap (set_word (reading (stepped e) place (v.bytes ++ more) b) a) (sym word)
        ∙ set (record b { input = v.bytes ++ more; cycle_place = place })
        ∙ ap goes (nothing_done f place (v.bytes ++ more) b)
        ∙ ap (λ h. goes (state_of f (having_done (v.bytes ++ more) [] [] h.place b))) (sym next.hears)

-- an instruction that is told by another definition of it
needs_as : (does told : InputEnd → State → Next) (e : Execution) (d d' : Devices) (read written : List ℕ) → ((input_end : InputEnd) (input : List ℕ) (b : Beside) → told input_end (reading e d.hears.place input b) ≡ does input_end (reading e d.hears.place input b)) → NeedsRead does e d d' read written → NeedsRead told e d d' read written
needs_as does told e d d' read written told_is n =
    record { none = n.none; more = n.more; few = n.few; fails = λ b. subst (λ x. FailsToGet x b.output) (sym (told_is failed [] b)) (n.fails b); sent = n.sent }

pub answers_as : (does told : InputEnd → State → Next) (e f : Execution) (d d' : Devices) (answer : Result (Option Ending) Fault) → ((input_end : InputEnd) (input : List ℕ) (b : Beside) → told input_end (reading e d.hears.place input b) ≡ does input_end (reading e d.hears.place input b)) → Answers does e f d d' answer → Answers told e f d d' answer
answers_as does told e f d d' (Ok answer) told_is a =
    record {
      read = a.read;
      written = a.written;
      told = a.told;
      moves = a.moves;
      needs = λ some. needs_as does told e d d' a.read a.written told_is (a.needs some);
      same = λ input_end more b can. subst (λ x. Is answer x f (having_done (d'.unread.bytes ++ more) a.written a.told d'.hears.place b)) (sym (told_is input_end (d.unread.bytes ++ (a.read ++ more)) b)) (a.same input_end more b can);
    }
answers_as does told e f d d' (Err Read) told_is a = record { none = a.none; more = a.more; refill = a.refill; same = λ b. told_is failed [] b ∙ a.same b }
answers_as does told e f d d' (Err Write) told_is a = a
answers_as does told e f d d' (Err Memory) told_is a =
    record {
      event = a.event;
      is_store = a.is_store;
      boundless = a.boundless;
      heard = a.heard;
      still = a.still;
      instructions = a.instructions;
      goes_on = λ input_end b. subst (λ x. GoesOnTelling x (reading e d.hears.place b.input b) a.event) (sym (told_is input_end b.input b)) (a.goes_on input_end b);
    }

-- an instruction that needs no device
pub done_advances : (does : InputEnd → State → Next) (e f : Execution) (d : Devices) (answer : Option Ending) → KnowsEnd d.unread d.left → ((input_end : InputEnd) (b : Beside) → Is answer (does input_end (state_of e b)) f b) → Advances does e f d d answer
done_advances does e f d answer knows is =
    record {
      read = [];
      written = [];
      told = [];
      moves = still d knows;
      needs = λ some. absurd (some refl);
      same = λ input_end more b can.
          subst (λ r. Is answer (does input_end (reading e d.hears.place (d.unread.bytes ++ more) b)) f r) (quiet_beside (d.unread.bytes ++ more) d.hears.place b)
          (is input_end (record b { input = d.unread.bytes ++ more; cycle_place = d.hears.place }));
    }

-- an instruction that tells and takes
module _ (acts : Setup → State → Next) (does : InputEnd → State → Next) (image : Image) (e f : Execution) (d : Devices) (h : Audience) (knows : KnowsEnd d.unread d.left) (is : (input_end : InputEnd) (b : Beside) → does input_end (state_of e b) ≡ acts (setup image e.space.settings d.hears.cycle input_end) (state_of e b)) where
  pub heard_advances : (answer : Option Ending) → Heard acts answer e f d.hears h → Advances does e f d (record d { hears = h }) answer
  heard_advances answer heard =
      let s = still d knows in
      record {
        read = [];
        written = [];
        told = heard.told;
        moves = record { was_left = s.was_left; knows_end = knows; ended = s.ended; read_quiet = refl; sent = s.sent; write_quiet = refl; heard = heard.hears };
        needs = λ some. absurd (some refl);
        same = λ input_end more b can.
            let input = d.unread.bytes ++ more in
            subst (λ x. Is answer x f (having_done input [] heard.told h.place b)) (sym (is input_end (record b { input = input; cycle_place = d.hears.place })))
            (subst (λ r. Is answer (acts (setup image e.space.settings d.hears.cycle input_end) (reading e d.hears.place input b)) f r) (unwritten input heard.told h.place b)
            (heard.same image input_end (record b { input = input })));
      }

  pub lacks_memory : Lacks acts e f d.hears h → LacksMemory does e f d (record d { hears = h })
  lacks_memory l =
      record {
        event = l.event;
        is_store = l.is_store;
        boundless = l.boundless;
        heard = l.hears;
        still = refl;
        instructions = l.instructions;
        goes_on = λ input_end b. subst (λ x. GoesOnTelling x (state_of e (record b { cycle_place = d.hears.place })) l.event) (sym (is input_end (record b { cycle_place = d.hears.place }))) (l.goes_on image input_end b);
      }

  pub stores_answer : (answer : Result (Option Ending) Fault) → HeardOrLacks acts answer e f d.hears h → Answers does e f d (record d { hears = h }) answer
  stores_answer (Ok answer) heard = heard_advances answer heard
  stores_answer (Err Memory) l = lacks_memory l
  stores_answer (Err Read) l = absurd l
  stores_answer (Err Write) l = absurd l

-- an instruction that writes
put_moves : (d : Devices) (byte : ℕ) (pending : List ℕ) → KnowsEnd d.unread d.left → pending ≡ d.pending ++ byte ∷ [] → Moves d (record d { pending = pending }) [] (byte ∷ []) []
put_moves d byte pending knows is =
    let s = still d knows in
    record { was_left = s.was_left; knows_end = knows; ended = s.ended; read_quiet = refl; sent = record { sent = []; took = sym (append_known-nil d.taken); tallied = sym (tally_known-nil d.tally); rest = is }; write_quiet = refl; heard = none_heard d.hears }

pub put_advances : (does : InputEnd → State → Next) (e f : Execution) (d : Devices) (pending : List ℕ) (answer : Option Ending) → KnowsEnd d.unread d.left → ((input_end : InputEnd) (b : Beside) → Puts answer d.pending pending (does input_end (state_of e b)) f b) → Advances does e f d (record d { pending = pending }) answer
put_advances does e f d pending None knows puts =
    let p = puts closed none in
    record {
      read = [];
      written = p.0 ∷ [];
      told = [];
      moves = put_moves d p.0 pending knows p.1;
      needs = λ some. absurd (some refl);
      same = λ input_end more b can. same input_end more b;
    }
  where
    none : Beside
    none = record { input = []; output = []; events = []; cycle_place = 0 }

    byte_same : (x y : ℕ) → pending ≡ d.pending ++ x ∷ [] → pending ≡ d.pending ++ y ∷ [] → x ≡ y
    byte_same x y p q = let same : x ∷ [] ≡ y ∷ [] = append_cancel_left d.pending (x ∷ []) (y ∷ []) (sym p ∙ q) in cc

    same : (input_end : InputEnd) (more : List ℕ) (b : Beside) → does input_end (reading e d.hears.place (d.unread.bytes ++ more) b) ≡ goes (state_of f (having_done (d.unread.bytes ++ more) ((puts closed none).0 ∷ []) [] d.hears.place b))
    same input_end more b =
        let p = puts input_end (record b { input = d.unread.bytes ++ more; cycle_place = d.hears.place }) in
        p.2
        ∙ ap (λ r. goes (state_of f r)) (untold (d.unread.bytes ++ more) (p.0 ∷ []) d.hears.place b)
        ∙ ap (λ x. goes (state_of f (having_done (d.unread.bytes ++ more) (x ∷ []) [] d.hears.place b))) (byte_same p.0 (puts closed none).0 p.1 (puts closed none).1)
put_advances does e f d pending (Some ending) knows puts =
    let p = puts closed (record { input = []; output = []; events = []; cycle_place = 0 }) in
    subst (λ xs. Advances does e f d (record d { pending = xs }) (Some ending)) (sym p.0)
    (done_advances does e f d (Some ending) knows (λ input_end b. (puts input_end b).1))
