use Rattle.std.proofs.Common.{[], refl, rules}
use Rattle.ob_machine.proofs.Exchanged.{none_heard}
use Rattle.ob_machine.proofs.Heard.{free_heard}
use Rattle.ob_machine.proofs.execution.Execution.free.Goals as goal

pub returns-then-self-eq0-clause-heard : goal.returns-then-self-eq0-clause-heard
returns-then-self-eq0-clause-heard g c =
    λ cycle place. record { told = []; hears = none_heard _; same = search rules }

pub returns-clause-heard : goal.returns-clause-heard
returns-clause-heard g c =
    λ cycle place. free_heard c.args.self.now _ _ c.args.line c.args.b c.word-w.result c.word-w.ensures c.free.new.self c.if-self-eq0.false refl refl c.free.ensures.told c.free.ensures.space
