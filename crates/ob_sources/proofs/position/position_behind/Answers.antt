use Rattle.std.proofs.Common.{take, arith, ap, ◌∙◌}
use Rattle.std.proofs.lemmas.List.{length-take-le}
use Rattle.ob_sources.specs.declared.position.Position.{Position}
use Rattle.ob_sources.proofs.Positions.{behind_feed, behind_other, position_small}
use Rattle.ob_sources.proofs.position.position_behind.Goals as goal
use Rattle.ob_sources.proofs.position.position_behind.Goals.{then-byte-eq10, else-byte-eq10}

pub overflow_add-position-else-byte-eq10 : goal.overflow_add-position-else-byte-eq10
overflow_add-position-else-byte-eq10 c =
    let text = c.args.before.now in
    let i = c.loop-byte.byte-index in
    let small = position_small (take i text) in
    let inside = c.loop-byte-test.true in
    omega (arith, small.column, ap (λ (p : Position). p.column) c.loop-byte.invariant, length-take-le i text (omega (arith, inside)), inside, c.requires)

pub loop-byte-preserved : goal.loop-byte-preserved
loop-byte-preserved c =
    elim c.if-byte-eq10.branch [
      | then-byte-eq10 w ↦ w.position-is ∙ behind_feed c.args.before.now c.loop-byte.byte-index c.loop-byte.position c.loop-byte-test.true c.loop-byte.invariant w.if-byte-eq10.true
      | else-byte-eq10 w ↦ w.position-is ∙ behind_other c.args.before.now c.loop-byte.byte-index c.loop-byte.position c.loop-byte-test.true c.loop-byte.invariant w.if-byte-eq10.false
    ]
