use Rattle.std.proofs.Common.{rules, ◌≡◌, Bool, List, arith, subst, sym}
use Rattle.std.proofs.lemmas.Grind.{common_steps}
use Rattle.ob_tree.specs.TypeView.{plain_types}
use Rattle.ob_homes.proofs.RaisedRows.{call_raises}
use Rattle.ob_homes.proofs.exposed.+exposed.Goals as goal

pub expose_in_expr-returns-in-Call : goal.expose_in_expr-returns-in-Call
expose_in_expr-returns-in-Call t c =
    let e = call_raises (plain_types c.args.locals.now) c.args.flags.now c.args.e.now c.in-Call.arguments c.in-Call.is in
    let P = λ (fs : List Bool). c.expose_in_arguments.new.flags ≡ fs in
    subst P (sym e) (first_of (search rules, grind (arith, common_steps)))
