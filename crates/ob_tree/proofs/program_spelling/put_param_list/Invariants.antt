use Rattle.std.proofs.Common.{◌≡◌, ◌++◌, take}
use Rattle.ob_tree.specs.Spelling.{listed}
use Rattle.ob_tree.specs.ProgramSpelling.{spell_param}
use Rattle.ob_tree.specs.ProgramView.{param_tree}
use Rattle.ob_tree.proofs.program_spelling.put_param_list.Given as goal

abbrev pub invariant-loop-i : goal.invariant-loop-i
invariant-loop-i l = l.out.items ≡ l.fn.out.items ++ listed (λ p. spell_param (param_tree p)) (take l.i l.params)
