use Rattle.std.proofs.Common.{rules, ◌≡◌, sym, ◌∙◌}
use Rattle.std.specs.List.{list_any}
use Rattle.ob_tree.specs.ProgramView.{item_tree}
use Rattle.ob_prelude.specs.Calls.{item_defines}
use Rattle.ob_prelude.proofs.CallRows.{any_map}
use Rattle.ob_prelude.proofs.program_calls.program_defines.Goals as goal

pub returns : goal.returns
returns c =
    let e : c.items_define.result ≡ list_any (λ i. item_defines c.args.name.now (item_tree i)) c.args.p.now.items.items = search rules in
    e ∙ sym (any_map (item_defines c.args.name.now) item_tree c.args.p.now.items.items)
