use Rattle.std.proofs.Common.{rules, ◌≡◌, Bool, arith, subst, sym}
use Rattle.std.proofs.lemmas.Grind.{common_steps}
use Rattle.ob_typed.specs.ProgramView.{typed_program}
use Rattle.ob_typed.specs.TypedView.{typed_function}
use Rattle.ob_homes.specs.HomesView.{context_in}
use Rattle.ob_homes.proofs.AssignedRows.{call_assigns}
use Rattle.ob_homes.proofs.assigned.+assigns.Goals as goal

pub assigns-returns-in-Call : goal.assigns-returns-in-Call
assigns-returns-in-Call t c =
    let e = call_assigns (context_in (typed_program c.args.t.now) (typed_function c.args.f.now) c.args.h.now) c.args.w c.args.e.now c.in-Call.arguments c.in-Call.is in
    let P = λ (b : Bool). c.arguments_assign.result ≡ b in
    subst P (sym e) (first_of (search rules, grind (arith, common_steps)))
