use Rattle.std.proofs.Common.{rules, ◌≡◌, Bool, List, arith, subst, sym}
use Rattle.std.proofs.lemmas.Grind.{common_steps}
use Rattle.ob_tree.specs.TypeView.{plain_types}
use Rattle.ob_homes.proofs.RaisedRows.{block_raises, for_raises}
use Rattle.ob_homes.proofs.exposed.+statements.Goals as goal

pub expose_in_stmt-returns-in-Block : goal.expose_in_stmt-returns-in-Block
expose_in_stmt-returns-in-Block t c =
    let e = block_raises (plain_types c.args.locals.now) c.args.flags.now c.args.stmt.now c.in-Block.stmts c.in-Block.is in
    let P = λ (fs : List Bool). c.expose_in_stmts.new.flags ≡ fs in
    subst P (sym e) (first_of (search rules, grind (arith, common_steps)))

pub expose_in_stmt-returns-in-For : goal.expose_in_stmt-returns-in-For
expose_in_stmt-returns-in-For t c =
    let e = for_raises (plain_types c.args.locals.now) c.args.flags.now c.args.stmt.now c.in-For.start c.in-For.test c.in-For.next c.in-For.body c.in-For.is in
    let P = λ (fs : List Bool). c.expose_in_stmt-in-For.new.flags ≡ fs in
    subst P (sym e) (first_of (search rules, grind (arith, common_steps)))
