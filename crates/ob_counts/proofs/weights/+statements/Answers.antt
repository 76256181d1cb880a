use Rattle.std.proofs.Common.{rules, ◌≡◌, ◌+◌, OnOk, ℕ, arith, subst, sym}
use Rattle.std.proofs.lemmas.Grind.{common_steps}
use Rattle.ob_tree.specs.StructsView.{plain_structs}
use Rattle.ob_counts.proofs.TypedRows.{block_counted, for_counted}
use Rattle.ob_counts.proofs.weights.+statements.Goals as goal

pub add_stmt-returns-in_ok-add-in-Block : goal.add_stmt-returns-in_ok-add-in-Block
add_stmt-returns-in_ok-add-in-Block t c =
    let e = block_counted (plain_structs c.args.s.now) c.args.stmt.now c.in-Block.stmts c.in-Block.is in
    let P = λ (n : ℕ). OnOk c.add_stmts.result (c.add_stmts.new.total ≡ c.args.total.now + n) in
    subst P (sym e) (first_of (search rules, grind (arith, common_steps)))

pub add_stmt-returns-in_ok-add_turn-in-For : goal.add_stmt-returns-in_ok-add_turn-in-For
add_stmt-returns-in_ok-add_turn-in-For t c =
    let e = for_counted (plain_structs c.args.s.now) c.args.stmt.now c.in-For.start c.in-For.test c.in-For.next c.in-For.body c.in-For.is in
    let P = λ (n : ℕ). OnOk c.add_stmt-in-For.result (c.add_stmt-in-For.new.total ≡ c.args.total.now + n) in
    subst P (sym e) (first_of (search rules, grind (arith, common_steps)))
