use Rattle.std.proofs.Common.{rules, ◌≡◌, sym, ◌∙◌, arith}
use Rattle.std.proofs.lemmas.Grind.{common_steps}
use Rattle.std.specs.List.{list_all}
use Rattle.ob_tree.specs.StructsView.{plain_structs}
use Rattle.ob_tree.specs.TypeView.{plain_types}
use Rattle.ob_typed.specs.TypedView.{typed_init}
use Rattle.ob_consts.specs.ConstantItems.{are_constants}
use Rattle.ob_consts.proofs.Rows.{list-constants}
use Rattle.ob_consts.proofs.images.+constants.Goals as goal

pub are_constants-returns-in-List : goal.are_constants-returns-in-List
are_constants-returns-in-List t c =
    let s = plain_structs c.args.s.now in
    let ts = plain_types c.args.statics.now.items in
    let all : c.are_constant_items.result ≡ list_all (λ x. are_constants s ts (typed_init x)) c.in-List.items.items = first_of (search rules, grind (arith, common_steps)) in
    all ∙ sym (list-constants s ts c.args.init.now c.in-List.items c.in-List.is)
