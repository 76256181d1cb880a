use Rattle.ob_commands.proofs.Coming.{unwritten}
use Rattle.ob_program.proofs.Running.{compiled_came, refused_as}
use Rattle.ob_program.proofs.run.run_source.Goals as goal

pub returns-in-Ok : goal.returns-in-Ok
returns-in-Ok g c = λ input quiet. compiled_came _ _ c.args.bytes.now c.in-Ok.image input c.run_image.result _ quiet c.in-Ok.ensures c.run_image.ensures

pub returns-in-Err : goal.returns-in-Err
returns-in-Err g c =
    λ input quiet. refused_as _ _ c.args.bytes.now input c.in-Err.refusal c.refused.result _ c.refused.ensures quiet (unwritten _ _ _) c.in-Err.ensures
