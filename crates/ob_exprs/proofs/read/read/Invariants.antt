use Rattle.ob_exprs.specs.Reading.{state_of}
use Rattle.ob_exprs.specs.ReadTokens.{reading}
use Rattle.ob_exprs.proofs.Loop.{Kept}
use Rattle.ob_exprs.proofs.read.read.Given as goal

abbrev pub invariant-loop-place : goal.invariant-loop-place
invariant-loop-place l = Kept l.tokens l.least l.depth (reading l.tokens l.least l.depth l.from (state_of l.fn.start)) l.place l.reader
