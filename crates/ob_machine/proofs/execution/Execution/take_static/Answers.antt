use Rattle.std.proofs.Common.{sym, ap, ◌∙◌}
use Rattle.ob_code.specs.Machine.{set_word}
use Rattle.ob_machine.specs.Executions.{state_of}
use Rattle.ob_machine.proofs.execution.Execution.take_static.Goals as goal

pub returns-clause-state : goal.returns-clause-state
returns-clause-state c =
    λ r. ap (set_word (state_of c.args.self.now r) c.args.a) (sym c.static_word-w.ensures) ∙ c.set_word.ensures.state r
