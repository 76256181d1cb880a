use Rattle.std.proofs.Common.{◌-◌, w64, sym, ap, ◌∙◌, subst}
use Rattle.std.specs.Prelude.{unsigned_abs}
use Rattle.std.proofs.lemmas.Int.{to_z-of_z}
use Rattle.ob_code.specs.Machine.{calling}
use Rattle.ob_machine.specs.Executions.{Is, state_of}
use Rattle.ob_machine.proofs.Handed.{ticked_once}
use Rattle.ob_machine.proofs.execution.Execution.tick_and_call.Goals as goal

pub returns-clause-state : goal.returns-clause-state
returns-clause-state c =
    let e = c.args.self.now in
    let f = c.unsigned_abs.ensures.value ∙ ap unsigned_abs (to_z-of_z w64 c.args.imm c.ranges.imm) in
    λ r. subst (λ x. Is c.call.result x c.call.new.self r)
    (ap (λ k. calling c.args.image.now k c.args.b (record (state_of e r) { steps = e.steps - 1 })) f ∙ sym (ticked_once e.steps (state_of e r) (λ t. calling c.args.image.now (unsigned_abs c.args.imm) c.args.b t) c.if-self-eq0.false))
    (c.call.ensures.state r)
