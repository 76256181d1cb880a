use Rattle.ob_commands.proofs.Coming.{loaded_as, no_file, no_file_as, of_file, unwritten}
use Rattle.ob_program.proofs.run.run.Goals as goal

pub returns-in-Ok : goal.returns-in-Ok
returns-in-Ok g c =
    λ input quiet.
    of_file _ _ _ _ input _ c.deref.result.now c.run_source.result _
    (loaded_as _ c.args.name.now c.args.job.now.argument _ c.in-Ok.bytes.items c.deref.result.now c.requires.named c.deref.ensures.value c.in-Ok.ensures) (c.run_source.ensures input quiet)

pub returns-in-Err : goal.returns-in-Err
returns-in-Err g c =
    λ input quiet.
    no_file _ _ _ _ input _ c.in-Err.came _ quiet (unwritten _ _ _) (no_file_as _ c.args.name.now c.args.job.now.argument _ c.in-Err.came c.requires.named c.in-Err.ensures)
