use Rattle.ob_commands.proofs.Coming.{loaded_as, no_file, no_file_as, not_read, of_file, unwritten}
use Rattle.ob_commands.proofs.images.exec.Goals as goal

pub returns-in-Ok : goal.returns-in-Ok
returns-in-Ok g c =
    of_file _ _ _ _ _ _ c.deref.result.now c.exec_bytes.result _
    (loaded_as _ c.args.name.now c.args.job.now.argument _ c.in-Ok.bytes.items c.deref.result.now c.requires.named c.deref.ensures.value c.in-Ok.ensures) c.exec_bytes.ensures

pub returns-in-Err : goal.returns-in-Err
returns-in-Err g c =
    no_file _ _ _ _ _ _ c.in-Err.came _ (not_read _ _) (unwritten _ _ _) (no_file_as _ c.args.name.now c.args.job.now.argument _ c.in-Err.came c.requires.named c.in-Err.ensures)
