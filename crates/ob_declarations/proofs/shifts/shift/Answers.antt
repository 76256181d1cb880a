use Rattle.std.proofs.Common.{subst}
use Rattle.ob_declarations.specs.declared.state.State.{State}
use Rattle.ob_declarations.specs.Shifts.{FewStars, state_of}
use Rattle.ob_declarations.proofs.shifts.shift.Goals as goal

pub declare-requires : goal.declare-requires
declare-requires c = subst (λ (s : State). FewStars (state_of s)) c.in-Declare.is c.requires

pub param-requires : goal.param-requires
param-requires c = subst (λ (s : State). FewStars (state_of s)) c.in-Param.is c.requires
