use Rattle.std.proofs.Common.{sym, ap, ◌∙◌}
use Rattle.ob_words.specs.Operators.{compare}
use Rattle.ob_words.specs.Words.{number}
use Rattle.ob_code.specs.Machine.{flag, set_word}
use Rattle.ob_machine.proofs.Words.{flag_is}
use Rattle.ob_machine.specs.Executions.{state_of}
use Rattle.ob_machine.proofs.execution.Execution.compare.Goals as goal

pub returns-clause-state : goal.returns-clause-state
returns-clause-state c =
    let holds = c.compared-holds.ensures ∙ (λ i. compare c.args.relation (number c.args.t (c.word.ensures i)) (number c.args.t (c.word-2.ensures i))) in
    let same = c.from.ensures ∙ flag_is c.compared-holds.result ∙ ap flag holds in
    λ r. ap (set_word (state_of c.args.self.now r) c.args.a) (sym same) ∙ c.set_word.ensures.state r
