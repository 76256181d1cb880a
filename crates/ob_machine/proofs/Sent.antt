-- Output that goes through a buffer, piece after piece.
use Rattle.std.proofs.Common.{◌≡◌, ℕ, ◌+◌, min, List, [], ◌++◌, length, take, Option, sym, ap, ◌∙◌, subst, arith, append_assoc}
use Rattle.std.specs.Io.KnownBytes.{append_known}
use Rattle.std.proofs.lemmas.List.{append-nil, take_min, take-append-le}
use Rattle.std.proofs.Math.Seq.{take-append-add}
use Rattle.ob_base.specs.Sink.{Tally, TakesPrefix, tally_known}
use Rattle.ob_base.proofs.Appending.{append_known-nil, append_known-then, tally_known-nil, tally_known-then}
use Rattle.ob_machine.specs.Buffers.{SentOrPending}

-- nothing was put
pub sent_none : (t : Option (List ℕ)) (c : Option Tally) (pending : List ℕ) → SentOrPending t t c c pending (pending ++ [])
sent_none t c pending = record { sent = []; took = sym (append_known-nil t); tallied = sym (tally_known-nil c); rest = sym (append-nil pending) }

-- bytes that were put in two steps
pub sent_then : (t0 t1 t2 : Option (List ℕ)) (c0 c1 c2 : Option Tally) (pending pending' bytes more : List ℕ) → SentOrPending t0 t1 c0 c1 pending bytes → SentOrPending t1 t2 c1 c2 pending' (pending ++ more) → SentOrPending t0 t2 c0 c2 pending' (bytes ++ more)
sent_then t0 t1 t2 c0 c1 c2 pending pending' bytes more s r = record {
  sent = s.sent ++ r.sent;
  took = r.took ∙ ap (λ t. append_known t r.sent) s.took ∙ append_known-then t0 s.sent r.sent;
  tallied = r.tallied ∙ ap (λ c. tally_known c r.sent) s.tallied ∙ tally_known-then c0 s.sent r.sent;
  rest = append_assoc s.sent r.sent pending' ∙ ap (λ b. s.sent ++ b) r.rest ∙ sym (append_assoc s.sent pending more) ∙ ap (λ b. b ++ more) s.rest;
}

-- some bytes and a prefix of the next piece are a prefix of all
prefix_is : (sent piece behind : List ℕ) (k : ℕ) → take (length sent + min k (length piece)) (sent ++ (piece ++ behind)) ≡ sent ++ take k piece
prefix_is sent piece behind k =
    take-append-add sent (piece ++ behind) (min k (length piece))
    ∙ ap (λ b. sent ++ b) (take-append-le (min k (length piece)) piece behind (omega arith) ∙ take_min k piece)

-- a sink that failed at the next piece took a prefix of all that was put
pub sent_prefix : (t0 t1 t2 : Option (List ℕ)) (c0 c1 c2 : Option Tally) (pending bytes more behind : List ℕ) → SentOrPending t0 t1 c0 c1 pending bytes → TakesPrefix t1 t2 c1 c2 (pending ++ more) → TakesPrefix t0 t2 c0 c2 (bytes ++ (more ++ behind))
sent_prefix t0 t1 t2 c0 c1 c2 pending bytes more behind s p =
    let piece = pending ++ more in
    let k = p.0 in
    let all : bytes ++ (more ++ behind) ≡ s.sent ++ (piece ++ behind) =
    ap (λ b. b ++ (more ++ behind)) (sym s.rest) ∙ append_assoc s.sent pending (more ++ behind) ∙ ap (λ b. s.sent ++ b) (sym (append_assoc pending more behind)) in
    let cut : s.sent ++ take k piece ≡ take (length s.sent + min k (length piece)) (bytes ++ (more ++ behind)) =
    sym (ap (take (length s.sent + min k (length piece))) all ∙ prefix_is s.sent piece behind k) in (
      length s.sent + min k (length piece),
      (
        p.1.0 ∙ ap (λ t. append_known t (take k piece)) s.took ∙ append_known-then t0 s.sent (take k piece) ∙ ap (append_known t0) cut,
        p.1.1 ∙ ap (λ c. tally_known c (take k piece)) s.tallied ∙ tally_known-then c0 s.sent (take k piece) ∙ ap (tally_known c0) cut,
      ),
    )

-- a sink that failed at the pending bytes took a prefix of all that was put
pub flush_prefix : (t0 t1 t2 : Option (List ℕ)) (c0 c1 c2 : Option Tally) (pending bytes : List ℕ) → SentOrPending t0 t1 c0 c1 pending bytes → TakesPrefix t1 t2 c1 c2 pending → TakesPrefix t0 t2 c0 c2 bytes
flush_prefix t0 t1 t2 c0 c1 c2 pending bytes s p =
    subst (λ b. TakesPrefix t0 t2 c0 c2 b) (append-nil bytes)
    (sent_prefix t0 t1 t2 c0 c1 c2 pending bytes [] [] s (subst (λ b. TakesPrefix t1 t2 c1 c2 b) (sym (append-nil pending)) p))
