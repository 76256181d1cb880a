use Rattle.ob_commands.proofs.Coming.{no_image, not_read, of_image, unwritten}
use Rattle.ob_commands.proofs.images.exec_bytes.Goals as goal

pub returns-in-Ok : goal.returns-in-Ok
returns-in-Ok g c = of_image _ _ c.args.bytes.now _ _ c.in-Ok.image c.run_image.result _ c.in-Ok.ensures.0 c.in-Ok.ensures.1 c.run_image.ensures

pub returns-in-Err : goal.returns-in-Err
returns-in-Err g c = no_image _ _ c.args.bytes.now _ _ c.in-Err.came _ (not_read _ _) (unwritten _ _ _) c.in-Err.ensures
