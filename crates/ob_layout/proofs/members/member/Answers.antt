use Rattle.std.proofs.Common.{◌≡◌, Some, None, slice_get, option_map, sym, ap, ◌∙◌, Bor}
use Rattle.ob_tree.specs.declared.types.StructRow.{StructRow}
use Rattle.ob_tree.specs.TypeView.{plain_struct}
use Rattle.ob_tree.specs.StructsView.{plain_structs}
use Rattle.ob_layout.proofs.Depths.{complete_member, no_member}
use Rattle.ob_layout.proofs.members.member.Goals as goal

pub returns-in-Some : goal.returns-in-Some
returns-in-Some c =
    let at : slice_get (plain_structs c.args.s.now) c.args.number ≡ Some (plain_struct c.in-Some.row.now) = sym c.row.ensures ∙ ap (option_map (λ (r : Bor StructRow). plain_struct r.now)) c.in-Some.is in
    complete_member (plain_structs c.args.s.now) c.args.number (plain_struct c.in-Some.row.now) c.args.name.now c.find.result at c.requires c.find.ensures

pub returns-in-None : goal.returns-in-None
returns-in-None c =
    let at : slice_get (plain_structs c.args.s.now) c.args.number ≡ None = sym c.row.ensures ∙ ap (option_map (λ (r : Bor StructRow). plain_struct r.now)) c.in-None.is in
    no_member (plain_structs c.args.s.now) c.args.number c.args.name.now at
