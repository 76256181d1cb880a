use Rattle.std.proofs.Common.{length, option_map, sym, ap, ◌∙◌}
use Rattle.ob_tree.specs.TypeView.{plain_type}
use Rattle.ob_tree.specs.StructsView.{plain_structs}
use Rattle.ob_tree.specs.Sizes.{layout, struct_layout}
use Rattle.ob_layout.specs.Capped.{capped, shown}
use Rattle.ob_layout.proofs.Layouts.{spread_some}
use Rattle.ob_layout.proofs.sizes.type_layout.Goals as goal

pub returns-in-Some : goal.returns-in-Some
returns-in-Some c =
    spread_some (struct_layout (length (plain_structs c.args.s.now)) (plain_structs c.args.s.now)) (plain_type c.args.t.now) (shown c.in-Some.l) (shown c.spread.result)
    (sym (ap (option_map shown) c.in-Some.is) ∙ c.elements_layout.ensures ∙ ap (λ t. option_map capped (layout (plain_structs c.args.s.now) t)) c.innermost.ensures.is)
    c.spread.ensures
