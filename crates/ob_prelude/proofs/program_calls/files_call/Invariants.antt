use Rattle.std.proofs.Common.{◌≡◌, take, false}
use Rattle.std.specs.List.{list_any}
use Rattle.ob_tree.specs.ProgramView.{file_tree}
use Rattle.ob_prelude.specs.Calls.{file_calls}
use Rattle.ob_prelude.proofs.program_calls.files_call.Given as goal

abbrev pub invariant-loop-declarator : goal.invariant-loop-declarator
invariant-loop-declarator l = list_any (λ d. file_calls l.name (file_tree d)) (take l.declarator-index l.declarators) ≡ false
