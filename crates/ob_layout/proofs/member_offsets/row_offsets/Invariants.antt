use Rattle.std.proofs.Common.{◌≡◌, ◌++◌, length, drop, map}
use Rattle.ob_tree.specs.TypeView.{plain_member}
use Rattle.ob_tree.specs.StructsView.{plain_structs}
use Rattle.ob_tree.specs.Sizes.{no_layout, struct_layout}
use Rattle.ob_layout.specs.Capped.{cut, shown}
use Rattle.ob_layout.specs.Offsets.{offsets_from}
use Rattle.ob_layout.proofs.member_offsets.row_offsets.Given as goal

abbrev pub invariant-loop-member : goal.invariant-loop-member
invariant-loop-member l =
    map cut (offsets_from (struct_layout (length (plain_structs l.s)) (plain_structs l.s)) no_layout (map plain_member l.member-items))
    ≡ map cut l.all.items ++ map cut (offsets_from (struct_layout (length (plain_structs l.s)) (plain_structs l.s)) (shown l.before) (map plain_member (drop l.member-index l.member-items)))
