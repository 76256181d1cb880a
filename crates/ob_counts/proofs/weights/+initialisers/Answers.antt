use Rattle.std.proofs.Common.{rules, ◌≡◌, ◌+◌, OnOk, ℕ, arith, subst, sym}
use Rattle.std.proofs.lemmas.Grind.{common_steps}
use Rattle.ob_tree.specs.StructsView.{plain_structs}
use Rattle.ob_counts.proofs.TypedRows.{list_counted}
use Rattle.ob_counts.proofs.weights.+initialisers.Goals as goal

pub add_init-returns-in-List : goal.add_init-returns-in-List
add_init-returns-in-List t c =
    let e = list_counted (plain_structs c.args.s.now) c.args.init.now c.in-List.items c.in-List.is in
    let P = λ (n : ℕ). OnOk c.add_items.result (c.add_items.new.total ≡ c.args.total.now + n) in
    subst P (sym e) (first_of (search rules, grind (arith, common_steps)))
