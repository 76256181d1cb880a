use Rattle.std.proofs.Common.{refl}
use Rattle.ob_commands.specs.Delivery.{ask_for}
use Rattle.ob_commands.proofs.Coming.{unwritten}
use Rattle.ob_program.proofs.Checking.{fault_came_as, ok_came}
use Rattle.ob_program.proofs.check.check_source.Goals as goal

pub returns-in-Ok : goal.returns-in-Ok
returns-in-Ok g c = λ job input quiet supply watchers seen. ok_came (ask_for job supply watchers) seen c.args.bytes.now _ input c.written.result _ quiet c.in-Ok.ensures refl c.written.ensures

pub returns-in-Err : goal.returns-in-Err
returns-in-Err g c = λ job input quiet supply watchers seen. fault_came_as (ask_for job supply watchers) seen c.args.bytes.now input c.in-Err.fault c.faulty.result _ c.faulty.ensures quiet (unwritten _ _ _) c.in-Err.ensures
