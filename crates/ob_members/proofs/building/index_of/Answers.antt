use Rattle.std.proofs.Common.{◌≡◌, Some, slice_get, option_map, sym, ap, ◌∙◌, Bor}
use Rattle.std.proofs.lemmas.List.{length-map}
use Rattle.std.proofs.lemmas.Result.{IfOk-weaker}
use Rattle.ob_tree.specs.declared.types.StructRow.{StructRow}
use Rattle.ob_tree.specs.TypeView.{plain_member, plain_struct}
use Rattle.ob_tree.specs.StructsView.{plain_structs}
use Rattle.ob_members.specs.Indexes.{IsIndex, IsNamed}
use Rattle.ob_members.proofs.MemberPlaces.{row_index, row_length}
use Rattle.ob_members.proofs.building.index_of.Goals as goal

pub named-requires : goal.named-requires
named-requires c =
    let s = plain_structs c.args.s.now in
    let row = plain_struct c.in-Some.row.now in
    let at : slice_get s c.args.number ≡ Some row = sym c.row.ensures ∙ ap (option_map (λ (r : Bor StructRow). plain_struct r.now)) c.in-Some.is in
    row_length s c.args.number row c.in_ok-offsets.offsets.items at c.in_ok-offsets.ensures ∙ length-map c.in-Some.row.now.members.items plain_member

pub returns-in-Some : goal.returns-in-Some
returns-in-Some c =
    let s = plain_structs c.args.s.now in
    let row = plain_struct c.in-Some.row.now in
    let os = c.in_ok-offsets.offsets.items in
    let at : slice_get s c.args.number ≡ Some row = sym c.row.ensures ∙ ap (option_map (λ (r : Bor StructRow). plain_struct r.now)) c.in-Some.is in
    IfOk-weaker c.named.result (λ index. IsNamed os row.members index.places.bindings) (λ index. IsIndex s c.args.number index.places.bindings)
    (λ index named. row_index s c.args.number row os index.places.bindings at c.in_ok-offsets.ensures c.requires named) c.named.ensures
