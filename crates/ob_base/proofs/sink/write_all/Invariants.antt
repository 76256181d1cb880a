use Rattle.std.proofs.Common.{◌≡◌, ℕ, ◌-◌, ◌≤◌, List, Option, length, take, drop}
use Rattle.std.specs.Io.KnownBytes.{append_known}
use Rattle.ob_base.specs.Sink.{Tally, tally_known}
use Rattle.ob_base.proofs.sink.write_all.Given as goal

-- the sink took and tallied all of the piece but its rest, and had no fault
pub record Taken (taken_before taken_now : Option (List ℕ)) (tally_before tally_now : Option Tally) (faults_before faults_now : ℕ) (piece rest : List ℕ) : Type 0 where
  pub within : length rest ≤ length piece
  pub rest_is : rest ≡ drop (length piece - length rest) piece
  pub took : taken_now ≡ append_known taken_before (take (length piece - length rest) piece)
  pub tallied : tally_now ≡ tally_known tally_before (take (length piece - length rest) piece)
  pub quiet : faults_now ≡ faults_before

abbrev pub invariant-loop-rest : goal.invariant-loop-rest
invariant-loop-rest g l =
    Taken (g.K.Sink.taken l.fn.out) (g.K.Sink.taken l.out) (g.K.Sink.tally l.fn.out) (g.K.Sink.tally l.out) (g.K.Sink.faults l.fn.out) (g.K.Sink.faults l.out) l.fn.piece l.rest

abbrev pub decreases-loop-rest : goal.decreases-loop-rest
decreases-loop-rest g l = length l.rest
