use Rattle.std.proofs.Common.{◌-◌, sym, ◌∙◌}
use Rattle.ob_model.specs.Heap.{place_for}
use Rattle.ob_code.specs.Machine.{allocate, get}
use Rattle.ob_machine.specs.Executions.{state_of}
use Rattle.ob_machine.proofs.Handed.{ticked_once}
use Rattle.ob_machine.proofs.execution.Execution.malloc.Goals as goal

pub returns-clause-state : goal.returns-clause-state
returns-clause-state c =
    let e = c.args.self.now in
    let heap = e.space.settings.heap in
    let n = c.from-n.ensures ∙ c.word.ensures in
    λ r. ticked_once e.steps (state_of e r) (λ t. allocate (place_for t.space.blocks heap (get t c.args.b)) (get t c.args.b) c.args.a t) c.if-self-eq0.false
    ∙ (λ i. allocate (place_for e.space.space.blocks heap (sym n i)) (sym n i) c.args.a (state_of (record e { steps = e.steps - 1 }) r))
    ∙ c.allocate.ensures.state r
