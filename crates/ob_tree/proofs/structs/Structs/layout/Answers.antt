use Rattle.std.proofs.Common.{rules, ◌≡◌, Some, Bor, option_map, slice_get, sym, ap, ◌∙◌}
use Rattle.std.specs.Prelude.{option_and_then}
use Rattle.ob_tree.specs.declared.types.KeptRow.{KeptRow}
use Rattle.ob_tree.specs.StructLayouts.{kept_layout, layout_of_row}
use Rattle.ob_tree.specs.StructsView.{plain_structs}
use Rattle.ob_tree.proofs.KeptLayouts.{kept_is}
use Rattle.ob_tree.proofs.structs.Structs.layout.Goals as goal

pub returns : goal.returns
returns c =
    let found : c.kept.result ≡ Some c.in_ok-kept.field-0 = search rules in
    let row : slice_get c.args.self.now.rows.items c.args.number ≡ Some c.in_ok-kept.field-0.now =
    sym c.kept.ensures ∙ ap (option_map (λ (r : Bor KeptRow). r.now)) found in
    sym (ap (option_and_then layout_of_row) row) ∙ kept_is (plain_structs c.args.self.now) (kept_layout c.args.self.now.rows.items) (record { right = c.args.self.now.right; known = c.args.self.now.known }) c.args.number
