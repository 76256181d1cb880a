use Rattle.std.proofs.Common.{length}
use Rattle.ob_tree.specs.StructsView.{plain_structs}
use Rattle.ob_tree.specs.Sizes.{struct_layout}
use Rattle.ob_layout.specs.Capped.{shown}
use Rattle.ob_layout.proofs.CappedOffsets.{turn}
use Rattle.ob_layout.proofs.member_offsets.row_offsets.Goals as goal

pub loop-member-preserved : goal.loop-member-preserved
loop-member-preserved c =
    turn (struct_layout (length (plain_structs c.args.s.now)) (plain_structs c.args.s.now)) _ c.loop-member.all.items c.push.new.self.items (shown c.loop-member.before) (shown c.laid-layout.result) (shown c.append-before.result) c.next_offset.result
    c.deref-member-items.result.now c.loop-member.member-index c.member-item.result c.loop-member-test.true c.member-item.is c.loop-member.invariant c.in_ok-push.ensures.items
    c.laid-layout.ensures c.next_offset.ensures.is c.append-before.ensures
