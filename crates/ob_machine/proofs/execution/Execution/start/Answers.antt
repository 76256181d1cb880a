use Rattle.std.proofs.Common.{[], length, sym, ap, ◌∙◌, subst}
use Rattle.ob_code.specs.Machine.{entering}
use Rattle.ob_machine.specs.Executions.{Is, state_of}
use Rattle.ob_machine.proofs.Exchanged.{stepped}
use Rattle.ob_machine.proofs.Gone.{ready_start}
use Rattle.ob_machine.proofs.Handed.{ticked_once}
use Rattle.ob_machine.proofs.execution.Execution.start.Goals as goal

pub returns-clause-state : goal.returns-clause-state
returns-clause-state c =
    let e = c.args.self.now in
    let image = c.args.image.now in
    λ r. subst (λ x. Is c.enter.result x c.enter.new.self r)
    (ap (λ k. entering image image.main k [] (state_of (stepped e) r)) (ap length c.as_slice.ensures)
    ∙ sym (ticked_once e.steps (state_of e r) (λ t. entering image image.main (length image.code) [] t) c.if-self-eq0.false))
    (c.enter.ensures.state r)

pub returns-clause-ready : goal.returns-clause-ready
returns-clause-ready c =
    ready_start c.args.image.now c.args.self.now c.enter.new.self c.enter.result c.requires.verified c.requires.rows c.requires.statics c.requires.calls c.requires.numbered c.enter.ensures.rows (returns-clause-state c)
