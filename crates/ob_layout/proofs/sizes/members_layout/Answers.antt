use Rattle.std.proofs.Common.{length, option_map, sym, ap, ◌∙◌}
use Rattle.ob_tree.specs.StructsView.{plain_structs}
use Rattle.ob_tree.specs.Sizes.{struct_layout}
use Rattle.ob_layout.specs.Capped.{shown}
use Rattle.ob_layout.proofs.Layouts.{turn}
use Rattle.ob_layout.proofs.sizes.members_layout.Goals as goal

pub loop-member-preserved : goal.loop-member-preserved
loop-member-preserved c =
    turn (struct_layout (length (plain_structs c.args.s.now)) (plain_structs c.args.s.now)) _ (shown c.loop-member.before) (shown c.in-Some.l) (shown c.append-before.result)
    c.deref-member-items.result.now c.loop-member.member-index c.member-item.result c.loop-member-test.true c.member-item.is c.loop-member.invariant
    (sym (ap (option_map shown) c.in-Some.is) ∙ c.type_layout.ensures) c.append-before.ensures
