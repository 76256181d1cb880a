use Rattle.std.proofs.Common.{◌≡◌, ◌++◌, take}
use Rattle.ob_tree.specs.Spelling.{listed}
use Rattle.ob_tree.specs.ProgramSpelling.{spell_file}
use Rattle.ob_tree.specs.ProgramView.{file_tree}
use Rattle.ob_tree.proofs.program_spelling.put_files.Given as goal

abbrev pub invariant-loop-i : goal.invariant-loop-i
invariant-loop-i l = l.out.items ≡ l.fn.out.items ++ listed (λ d. spell_file (file_tree d)) (take l.i l.declarators)
