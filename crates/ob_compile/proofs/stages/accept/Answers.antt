use Rattle.ob_typed.specs.ProgramView.{typed_program}
use Rattle.ob_compile.specs.Accepted.{ComesTo, IsTyped}
use Rattle.ob_compile.proofs.Faults.{limited_answer, typed_fault, widened}
use Rattle.ob_compile.proofs.stages.accept.Goals as goal

pub returns-in-Ok : goal.returns-in-Ok
returns-in-Ok c = limited_answer c.args.bytes.now c.requires (typed_program c.in-Ok.t) c.in-Ok.ensures c.limited.result c.limited.ensures

pub returns-in-Err : goal.returns-in-Err
returns-in-Err c = widened (IsTyped c.args.bytes.now) (ComesTo c.args.bytes.now) (typed_fault c.args.bytes.now c.requires) c.in-Err.fault c.in-Err.ensures
