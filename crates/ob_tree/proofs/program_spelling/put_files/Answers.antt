use Rattle.std.proofs.Common.{rules, ◌≡◌, ◌++◌, ◌<◌, length, get_or, arith}
use Rattle.std.proofs.lemmas.Grind.{common_steps}
use Rattle.ob_tree.specs.Spelling.{comma_before}
use Rattle.ob_tree.specs.ProgramSpelling.{spell_file}
use Rattle.ob_tree.specs.ProgramView.{file_tree}
use Rattle.ob_tree.proofs.Lists.{listed-turn}
use Rattle.ob_tree.proofs.program_spelling.put_files.Goals as goal

pub loop-i-preserved : goal.loop-i-preserved
loop-i-preserved c =
    let h : c.loop-i.i < length c.args.declarators.now = first_of (search rules, grind (arith, common_steps)) in
    let x : c.index-declarators-i.result ≡ get_or c.args.declarators.now c.loop-i.i c.index-declarators-i.result = first_of (search rules, grind (arith, common_steps)) in
    let a : c.put_file.new.out.items ≡ (c.loop-i.out.items ++ comma_before c.loop-i.i) ++ spell_file (file_tree c.index-declarators-i.result) = first_of (search rules, grind (arith, common_steps)) in
    listed-turn (λ e. spell_file (file_tree e)) c.args.out.now.items c.loop-i.out.items c.put_file.new.out.items c.args.declarators.now c.loop-i.i c.index-declarators-i.result c.loop-i.invariant h x a
