use Rattle.std.proofs.Common.{◌≡◌, false, take}
use Rattle.std.specs.List.{list_any}
use Rattle.ob_typed.specs.ProgramView.{typed_program}
use Rattle.ob_typed.specs.TypedView.{typed_expr, typed_function}
use Rattle.ob_lower.specs.Assigned.{assigns}
use Rattle.ob_homes.specs.HomesView.{context_in}
use Rattle.ob_homes.proofs.assigned.+assigns.Given as goal

-- no argument so far assigns it
abbrev pub invariant-arguments_assign-loop-e : goal.invariant-arguments_assign-loop-e
invariant-arguments_assign-loop-e l =
    list_any (λ e. assigns (context_in (typed_program l.t) (typed_function l.f) l.h) (typed_expr e) l.w) (take l.e-index l.arguments) ≡ false
