use Rattle.std.proofs.Common.{sym, ◌∙◌}
use Rattle.ob_words.specs.Operators.{binary}
use Rattle.ob_words.specs.Words.{number}
use Rattle.ob_code.specs.Machine.{right_number}
use Rattle.ob_machine.proofs.Words.{set_result_some}
use Rattle.ob_machine.specs.Executions.{result_word, state_of}
use Rattle.ob_machine.proofs.execution.Execution.binary.Goals as goal

pub returns-clause-state : goal.returns-clause-state
returns-clause-state c =
    let op = c.args.operator in
    let t = c.args.t in
    let same = sym (λ i. result_word (binary op t (number t (c.word.ensures i)) (right_number op t (c.word-2.ensures i)))) in
    λ r. set_result_some _ c.args.a c.in-Some.w (state_of c.args.self.now r) (same ∙ sym c.computed.ensures ∙ c.in-Some.is)
    ∙ c.set_word.ensures.state r
