use Rattle.std.proofs.Common.{◌≡◌, option_map, take}
use Rattle.ob_tree.specs.Parts.{element_part, row_part}
use Rattle.ob_tree.specs.StructsView.{plain_structs}
use Rattle.ob_tree.specs.TypeView.{plain_struct, plain_type}
use Rattle.ob_typed.specs.TypedView.{plain_image}
use Rattle.ob_consts.specs.Placing.{given, numbered, part_pieces, placed}
use Rattle.ob_consts.proofs.Members.{Follow}
use Rattle.ob_consts.proofs.pieces.+put.Given as goal

abbrev pub invariant-put_elements-loop-i : goal.invariant-put_elements-loop-i
invariant-put_elements-loop-i l =
    plain_image l.out ≡ placed (plain_image l.fn.out) (numbered (λ i x. part_pieces (plain_structs l.s) l.at (element_part (plain_structs l.s) (given (option_map (λ u. plain_type u.now) l.t)) l.count i) x) 0 (take l.i l.items))

abbrev pub invariant-put_members-loop-i : goal.invariant-put_members-loop-i
invariant-put_members-loop-i l = record {
  placed : plain_image l.out ≡ placed (plain_image l.fn.out) (numbered (λ i x. part_pieces (plain_structs l.s) l.at (row_part (plain_structs l.s) (option_map (λ r. plain_struct r.now) l.row) i) x) 0 (take l.i l.items));
  follow : Follow (plain_structs l.s) (option_map (λ r. plain_struct r.now) l.row) l.i l.end;
}
