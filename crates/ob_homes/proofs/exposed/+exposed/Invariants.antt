use Rattle.std.proofs.Common.{◌≡◌, take}
use Rattle.std.specs.Prelude.{fold}
use Rattle.ob_tree.specs.TypeView.{plain_types}
use Rattle.ob_typed.specs.TypedView.{typed_expr}
use Rattle.ob_homes.specs.Flags.{with_expr}
use Rattle.ob_homes.proofs.exposed.+exposed.Given as goal

abbrev pub invariant-expose_in_arguments-loop-e : goal.invariant-expose_in_arguments-loop-e
invariant-expose_in_arguments-loop-e l = l.flags ≡ fold (λ fs x. with_expr (typed_expr x) (plain_types l.locals) fs) l.fn.flags (take l.e-index l.arguments)
