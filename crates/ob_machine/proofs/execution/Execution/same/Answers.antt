use Rattle.std.proofs.Common.{◌==◌, sym, ap, ◌∙◌}
use Rattle.ob_code.specs.Machine.{flag, set_word}
use Rattle.ob_machine.proofs.Words.{flag_is}
use Rattle.ob_machine.specs.Executions.{state_of}
use Rattle.ob_machine.proofs.execution.Execution.same.Goals as goal

pub returns-clause-state : goal.returns-clause-state
returns-clause-state c =
    let same = c.from.ensures ∙ flag_is (c.word.result == c.word-2.result) ∙ (λ i. flag (c.word.ensures i == c.word-2.ensures i)) in
    λ r. ap (set_word (state_of c.args.self.now r) c.args.a) (sym same) ∙ c.set_word.ensures.state r
