use Rattle.std.proofs.Common.{◌≡◌, option_map, length, drop, map}
use Rattle.ob_tree.specs.TypeView.{plain_member}
use Rattle.ob_tree.specs.StructsView.{plain_structs}
use Rattle.ob_tree.specs.Sizes.{member_from, no_layout, struct_layout}
use Rattle.ob_layout.specs.Capped.{capped_place, shown}
use Rattle.ob_layout.proofs.members.find.Given as goal

abbrev pub invariant-loop-index : goal.invariant-loop-index
invariant-loop-index l =
    option_map capped_place (member_from (struct_layout (length (plain_structs l.s)) (plain_structs l.s)) no_layout 0 (map plain_member l.row.members.items) l.name)
    ≡ option_map capped_place (member_from (struct_layout (length (plain_structs l.s)) (plain_structs l.s)) (shown l.before) l.index (map plain_member (drop l.index l.row.members.items)) l.name)
