use Rattle.ob_commands.specs.Delivery.{ask_for}
use Rattle.ob_commands.proofs.Coming.{loaded_as, no_file, no_file_as, of_file, unwritten}
use Rattle.ob_program.proofs.check.check.Goals as goal

pub returns-in-Ok : goal.returns-in-Ok
returns-in-Ok g c =
    λ input quiet supply watchers seen.
    of_file (ask_for c.args.job.now supply watchers) seen _ _ input _ c.deref.result.now c.check_source.result _
    (loaded_as _ c.args.name.now c.args.job.now.argument _ c.in-Ok.bytes.items c.deref.result.now c.requires c.deref.ensures.value c.in-Ok.ensures) (c.check_source.ensures c.args.job.now input quiet supply watchers seen)

pub returns-in-Err : goal.returns-in-Err
returns-in-Err g c =
    λ input quiet supply watchers seen.
    no_file (ask_for c.args.job.now supply watchers) seen _ _ input _ c.in-Err.came _ quiet (unwritten _ _ _)
    (no_file_as _ c.args.name.now c.args.job.now.argument _ c.in-Err.came c.requires c.in-Err.ensures)
