use Rattle.std.proofs.Common.{rules, ◌≡◌, ◌+◌, ◌<◌, ◌∙◌, ℕ, OnOk, List, length, get_or, option_map, slice_get, subst, sym, ap, arith}
use Rattle.std.proofs.lemmas.Grind.{common_steps}
use Rattle.ob_tree.specs.Parts.{element_part, row_part}
use Rattle.ob_tree.specs.StructsView.{plain_structs}
use Rattle.ob_tree.specs.TypeView.{plain_member, plain_struct, plain_type}
use Rattle.ob_typed.specs.declared.statements.TInit.{TInit}
use Rattle.ob_typed.specs.Images.{Piece}
use Rattle.ob_typed.specs.TypedView.{plain_image}
use Rattle.ob_consts.specs.Placing.{given, members_of, next_end, next_part, part_pieces, placed}
use Rattle.ob_consts.proofs.Members.{follow-part, follow-turn}
use Rattle.ob_consts.proofs.Placed.{turn}
use Rattle.ob_consts.proofs.Rows.{list-pieces}
use Rattle.ob_consts.proofs.pieces.+put.Goals as goal

pub put_elements-loop-i-preserved : goal.put_elements-loop-i-preserved
put_elements-loop-i-preserved t c =
    let u = given (option_map (λ x. plain_type x.now) c.args.t) in
    let h : c.loop-i.i < length c.args.items.now = first_of (search rules, grind (arith, common_steps)) in
    let x : c.index-items-i.result ≡ get_or c.args.items.now c.loop-i.i c.index-items-i.result = first_of (search rules, grind (arith, common_steps)) in
    let a : plain_image c.put_element.new.out ≡ placed (plain_image c.loop-i.out) (part_pieces (plain_structs c.args.s.now) c.args.at (element_part (plain_structs c.args.s.now) u c.args.count c.loop-i.i) c.index-items-i.result) = first_of (search rules, grind (arith, common_steps)) in
    turn (λ i y. part_pieces (plain_structs c.args.s.now) c.args.at (element_part (plain_structs c.args.s.now) u c.args.count i) y)
    (plain_image c.args.out.now) (plain_image c.loop-i.out) (plain_image c.put_element.new.out) c.args.items.now c.loop-i.i c.index-items-i.result h x c.loop-i.invariant a

pub put_init-returns-in-List : goal.put_init-returns-in-List
put_init-returns-in-List t c =
    let u = given (option_map (λ x. plain_type x.now) c.args.t) in
    let e = list-pieces (plain_structs c.args.s.now) u c.args.at c.args.init.now c.in-List.items c.in-List.is in
    let P = λ (ps : List Piece). OnOk c.put_items.result (plain_image c.put_items.new.out ≡ placed (plain_image c.args.out.now) ps) in
    subst P (sym e) (first_of (search rules, grind (arith, common_steps)))

pub put_members-loop-i-preserved : goal.put_members-loop-i-preserved
put_members-loop-i-preserved t c =
    let s = plain_structs c.args.s.now in
    let r = option_map (λ x. plain_struct x.now) c.args.row in
    let o = option_map (λ m. plain_member m.now) c.member_at.result in
    let h : c.loop-i.i < length c.args.items.now = first_of (search rules, grind (arith, common_steps)) in
    let x : c.index-items-i.result ≡ get_or c.args.items.now c.loop-i.i c.index-items-i.result = first_of (search rules, grind (arith, common_steps)) in
    let is : o ≡ slice_get (members_of r) c.loop-i.i = c.member_at.ensures in
    let a : plain_image c.put_member.new.out ≡ placed (plain_image c.loop-i.out) (part_pieces s c.args.at (next_part s c.loop-i.end o) c.index-items-i.result) = first_of (search rules, grind (arith, common_steps)) in
    let e : c.in_ok-end.end ≡ next_end s c.loop-i.end o = first_of (search rules, grind (arith, common_steps)) in
    let part_is = follow-part s r c.loop-i.i c.loop-i.end o is c.loop-i.invariant.follow in
    record {
      placed = turn (λ i y. part_pieces s c.args.at (row_part s r i) y) (plain_image c.args.out.now) (plain_image c.loop-i.out) (plain_image c.put_member.new.out) c.args.items.now c.loop-i.i c.index-items-i.result h x c.loop-i.invariant.placed
          (a ∙ ap (λ p. placed (plain_image c.loop-i.out) (part_pieces s c.args.at p c.index-items-i.result)) part_is);
      follow = follow-turn s r c.loop-i.i c.loop-i.end c.in_ok-end.end o is e c.loop-i.invariant.follow;
    }
