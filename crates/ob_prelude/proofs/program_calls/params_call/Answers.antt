use Rattle.std.proofs.Common.{rules, ◌≡◌, ap, sym, ◌∙◌}
use Rattle.std.specs.List.{list_any}
use Rattle.ob_tree.specs.ProgramView.{param_tree, params_tree}
use Rattle.ob_prelude.specs.Calls.{param_calls, params_call}
use Rattle.ob_prelude.proofs.CallRows.{any_map}
use Rattle.ob_prelude.proofs.program_calls.params_call.Goals as goal

pub returns-in-List : goal.returns-in-List
returns-in-List c =
    let e : c.param_list_calls.result ≡ list_any (λ p. param_calls c.args.name.now (param_tree p)) c.in-List.params.items = search rules in
    e ∙ sym (any_map (param_calls c.args.name.now) param_tree c.in-List.params.items)
    ∙ sym (ap (λ ps. params_call c.args.name.now (params_tree ps)) c.in-List.is)
