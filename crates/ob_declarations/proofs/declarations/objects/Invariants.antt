use Rattle.std.proofs.Common.{◌≡◌, map}
use Rattle.ob_tree.specs.ExpressionView.{obj_trees}
use Rattle.ob_tree.specs.ProgramView.{file_tree}
use Rattle.ob_tree.specs.ProgramParts.{objects}
use Rattle.ob_declarations.proofs.declarations.objects.Given as goal

abbrev pub invariant-loop-name : goal.invariant-loop-name
invariant-loop-name l = obj_trees l.objects.items ≡ objects (map file_tree l.yielded)
