use Rattle.std.proofs.Common.{rules, ◌≡◌, Bool, List, arith, subst, sym}
use Rattle.std.proofs.lemmas.Grind.{common_steps}
use Rattle.ob_tree.specs.TypeView.{plain_types}
use Rattle.ob_homes.proofs.RaisedRows.{whole_list_raises}
use Rattle.ob_homes.proofs.exposed.expose_in_own.Goals as goal

pub returns-in-List : goal.returns-in-List
returns-in-List c =
    let e = whole_list_raises c.args.own (plain_types c.args.locals.now) c.args.flags.now c.args.init.now c.in-List.items c.in-List.is in
    let P = λ (fs : List Bool). c.expose_in_own_items.new.flags ≡ fs in
    subst P (sym e) (first_of (search rules, grind (arith, common_steps)))
