use Rattle.std.proofs.Common.{rules, ◌≡◌, ◌+◌, OnOk, ℕ, arith, subst, sym}
use Rattle.std.proofs.lemmas.Grind.{common_steps}
use Rattle.ob_tree.specs.StructsView.{plain_structs}
use Rattle.ob_counts.proofs.TypedRows.{call_counted}
use Rattle.ob_counts.proofs.copies.+copies.Goals as goal

pub add_expr-returns-in-Call : goal.add_expr-returns-in-Call
add_expr-returns-in-Call t c =
    let e = call_counted (plain_structs c.args.s.now) c.args.e.now c.in-Call.arguments c.in-Call.is in
    let P = λ (n : ℕ). OnOk c.add_arguments.result (c.add_arguments.new.total ≡ c.args.total.now + n) in
    subst P (sym e) (first_of (search rules, grind (arith, common_steps)))
