use Rattle.std.proofs.Common.{◌≡◌, sym, ◌∙◌}
use Rattle.ob_code.specs.Allocation.{place_word}
use Rattle.ob_code.specs.Machine.{set_word}
use Rattle.ob_space.specs.Loaded.{heap_place}
use Rattle.ob_machine.specs.Executions.{state_of}
use Rattle.ob_machine.proofs.Heard.{address_none, address_some}
use Rattle.ob_machine.proofs.execution.Execution.allocate.Goals as goal
use Rattle.ob_machine.proofs.execution.Execution.allocate.Goals.{in-Some, in-None}

pub returns-clause-state : goal.returns-clause-state
returns-clause-state c =
    let e = c.args.self.now in
    let place = heap_place e.space c.args.n in
    let w : c.match-alloc_object.w ≡ place_word place = elim c.match-alloc_object.branch [
      | in-Some w ↦ w.w-is ∙ address_some place w.in-Some.address (sym w.in-Some.is ∙ c.alloc_object.ensures.address)
      | in-None w ↦ w.w-is ∙ address_none place (sym w.in-None.is ∙ c.alloc_object.ensures.address)
    ] in
    λ r. (λ i. set_word (record (state_of e r) { space = (sym c.alloc_object.ensures.space i).space }) c.args.a (sym w i)) ∙ c.set_word.ensures.state r
