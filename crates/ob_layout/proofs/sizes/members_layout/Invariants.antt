use Rattle.std.proofs.Common.{◌≡◌, option_map, length, drop, map}
use Rattle.ob_tree.specs.TypeView.{plain_member}
use Rattle.ob_tree.specs.StructsView.{plain_structs}
use Rattle.ob_tree.specs.Sizes.{members_layout, no_layout, struct_layout}
use Rattle.ob_layout.specs.Capped.{capped, shown}
use Rattle.ob_layout.proofs.sizes.members_layout.Given as goal

abbrev pub invariant-loop-member : goal.invariant-loop-member
invariant-loop-member l =
    option_map capped (members_layout (struct_layout (length (plain_structs l.s)) (plain_structs l.s)) no_layout (map plain_member l.member-items))
    ≡ option_map capped (members_layout (struct_layout (length (plain_structs l.s)) (plain_structs l.s)) (shown l.before) (map plain_member (drop l.member-index l.member-items)))
