use Rattle.std.proofs.Common.{sym, ap, ◌∙◌}
use Rattle.ob_words.specs.Words.{number, word}
use Rattle.ob_code.specs.Machine.{set_word}
use Rattle.ob_machine.specs.Executions.{state_of}
use Rattle.ob_machine.proofs.execution.Execution.convert.Goals as goal

pub returns-clause-state : goal.returns-clause-state
returns-clause-state c =
    λ r. ap (set_word (state_of c.args.self.now r) c.args.a) (sym (c.converted-w.ensures ∙ ap (λ w. word (number c.args.t w)) c.word.ensures))
    ∙ c.set_word.ensures.state r
