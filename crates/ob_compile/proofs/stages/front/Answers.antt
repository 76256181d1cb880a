use Rattle.ob_sources.specs.Reading.{IsRead}
use Rattle.ob_compile.specs.Accepted.{IsTyped}
use Rattle.ob_compile.proofs.Faults.{read_fault, widened}
use Rattle.ob_compile.proofs.stages.front.Goals as goal

pub returns-in-Err : goal.returns-in-Err
returns-in-Err c = widened (IsRead c.args.bytes.now) (IsTyped c.args.bytes.now) (read_fault c.args.bytes.now) c.in-Err.fault c.in-Err.ensures.fault
