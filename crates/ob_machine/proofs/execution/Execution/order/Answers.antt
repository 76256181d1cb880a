use Rattle.std.proofs.Common.{sym, ap, ◌∙◌}
use Rattle.ob_model.specs.Pointers.{pointers_compare}
use Rattle.ob_code.specs.Machine.{flag, set_word}
use Rattle.ob_space.specs.Loaded.{pointer_at}
use Rattle.ob_machine.proofs.Words.{flag_is}
use Rattle.ob_machine.specs.Executions.{state_of}
use Rattle.ob_machine.proofs.execution.Execution.order.Goals as goal

pub returns-clause-state : goal.returns-clause-state
returns-clause-state c =
    let s = c.args.self.now.space in
    let holds = c.order-holds.ensures.answer ∙ (λ i. pointers_compare c.args.relation (pointer_at s (c.word-left.ensures i)) (pointer_at s (c.word-right.ensures i))) in
    let same = c.from.ensures ∙ flag_is c.order-holds.result ∙ ap flag holds in
    λ r. ap (set_word (state_of c.args.self.now r) c.args.a) (sym same)
    ∙ (λ i. set_word (state_of (record c.args.self.now { space = sym c.order-holds.ensures.kept i }) r) c.args.a c.from.result)
    ∙ c.set_word.ensures.state r
