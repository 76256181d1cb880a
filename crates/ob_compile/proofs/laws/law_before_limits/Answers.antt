use Rattle.ob_compile.proofs.Faults.{typed_fault}
use Rattle.ob_compile.proofs.OneSource.{accepted_typed, no_code, no_statics}
use Rattle.ob_compile.proofs.laws.law_before_limits.Goals as goal

pub returns-clause-fault : goal.returns-clause-fault
returns-clause-fault c text f short h = typed_fault text short f h

pub returns-clause-tree : goal.returns-clause-tree
returns-clause-tree c = accepted_typed

pub returns-clause-statics : goal.returns-clause-statics
returns-clause-statics c = no_statics

pub returns-clause-code : goal.returns-clause-code
returns-clause-code c = no_code
