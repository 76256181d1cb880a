use Rattle.std.proofs.Common.{◌≡◌, Some, None, slice_get, option_map, length, map, sym, ap, ◌∙◌, Bor}
use Rattle.std.proofs.lemmas.Result.{IfOk-weaker}
use Rattle.ob_tree.specs.declared.types.StructRow.{StructRow}
use Rattle.ob_tree.specs.TypeView.{plain_struct}
use Rattle.ob_tree.specs.StructsView.{plain_structs}
use Rattle.ob_tree.specs.Sizes.{no_layout, struct_layout}
use Rattle.ob_layout.specs.Capped.{cut}
use Rattle.ob_layout.specs.Offsets.{offsets, offsets_from}
use Rattle.ob_layout.proofs.CappedOffsets.{complete_offsets, no_offsets}
use Rattle.ob_layout.proofs.member_offsets.offsets.Goals as goal

pub returns-in-Some : goal.returns-in-Some
returns-in-Some c =
    let s = plain_structs c.args.s.now in
    let row = plain_struct c.in-Some.row.now in
    let at : slice_get s c.args.number ≡ Some row = sym c.row.ensures ∙ ap (option_map (λ (r : Bor StructRow). plain_struct r.now)) c.in-Some.is in
    IfOk-weaker c.row_offsets.result (λ all. map cut all.items ≡ map cut (offsets_from (struct_layout (length s) s) no_layout row.members)) (λ all. all.items ≡ offsets s c.args.number)
    (λ all is. complete_offsets s c.args.number row all.items at c.requires is) c.row_offsets.ensures

pub returns-in-None : goal.returns-in-None
returns-in-None c =
    let at : slice_get (plain_structs c.args.s.now) c.args.number ≡ None = sym c.row.ensures ∙ ap (option_map (λ (r : Bor StructRow). plain_struct r.now)) c.in-None.is in
    c.new.ensures.items ∙ no_offsets (plain_structs c.args.s.now) c.args.number at
