use Rattle.std.proofs.Common.{refl, rules}
use Rattle.ob_machine.proofs.Exchanged.{none_heard}
use Rattle.ob_machine.proofs.ports.Ports.refill.Goals as goal

pub returns-clause-answer : goal.returns-clause-answer
returns-clause-answer g c =
    λ hears. record {
      moves = record { was_left = search rules; knows_end = search rules; ended = search rules; read_quiet = search rules; sent = search rules; write_quiet = search rules; heard = none_heard hears };
      hears = refl;
      nothing_pending = search rules;
      filled = search rules;
      few = search rules;
    }
