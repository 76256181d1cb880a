use Rattle.std.proofs.Common.{◌≡◌, drop, map}
use Rattle.ob_tree.specs.ProgramView.{param_tree}
use Rattle.ob_tree.specs.ProgramParts.{are_all_named}
use Rattle.ob_declarations.proofs.params.are_all_named.Given as goal

abbrev pub invariant-loop-param : goal.invariant-loop-param
invariant-loop-param l =
    are_all_named (map param_tree l.params) ≡ are_all_named (map param_tree (drop l.param-index l.params))
