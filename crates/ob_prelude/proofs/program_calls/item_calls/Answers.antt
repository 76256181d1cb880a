use Rattle.std.proofs.Common.{rules, ◌≡◌, ◌||◌, false, map, ap, sym, ◌∙◌}
use Rattle.std.specs.List.{list_any}
use Rattle.ob_tree.specs.ExpressionView.{spec_tree}
use Rattle.ob_tree.specs.ProgramView.{file_tree, item_node_tree}
use Rattle.ob_prelude.specs.Calls.{spec_calls, file_calls, item_calls}
use Rattle.ob_prelude.proofs.CallRows.{any_map}
use Rattle.ob_prelude.proofs.program_calls.item_calls.Goals as goal

pub returns-in-Decls : goal.returns-in-Decls
returns-in-Decls c =
    let n = c.args.name.now in
    let i = c.args.item.now in
    let ds = c.in-Decls.declarators.items in
    let e : c.files_call.result ≡ list_any (λ d. file_calls n (file_tree d)) ds = search rules in
    let s : spec_calls n (spec_tree i.spec) ≡ false = search rules in
    e ∙ sym (any_map (file_calls n) file_tree ds)
    ∙ sym (ap (λ b. b || list_any (file_calls n) (map file_tree ds)) s)
    ∙ sym (ap (λ x. item_calls n (item_node_tree i.first i.line i.fixed (spec_tree i.spec) x)) c.in-Decls.is)
