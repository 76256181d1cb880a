use Rattle.std.proofs.Common.{rules, ◌≡◌, ◌++◌, ◌<◌, length, get_or, arith}
use Rattle.std.proofs.lemmas.Grind.{common_steps}
use Rattle.ob_tree.specs.Spelling.{comma_before}
use Rattle.ob_tree.specs.ProgramSpelling.{spell_param}
use Rattle.ob_tree.specs.ProgramView.{param_tree}
use Rattle.ob_tree.proofs.Lists.{listed-turn}
use Rattle.ob_tree.proofs.program_spelling.put_param_list.Goals as goal

pub loop-i-preserved : goal.loop-i-preserved
loop-i-preserved c =
    let h : c.loop-i.i < length c.args.params.now = first_of (search rules, grind (arith, common_steps)) in
    let x : c.index-params-i.result ≡ get_or c.args.params.now c.loop-i.i c.index-params-i.result = first_of (search rules, grind (arith, common_steps)) in
    let a : c.put_param.new.out.items ≡ (c.loop-i.out.items ++ comma_before c.loop-i.i) ++ spell_param (param_tree c.index-params-i.result) = first_of (search rules, grind (arith, common_steps)) in
    listed-turn (λ e. spell_param (param_tree e)) c.args.out.now.items c.loop-i.out.items c.put_param.new.out.items c.args.params.now c.loop-i.i c.index-params-i.result c.loop-i.invariant h x a
