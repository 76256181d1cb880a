use Rattle.std.proofs.Common.{◌≡◌, take}
use Rattle.std.specs.Prelude.{fold}
use Rattle.ob_tree.specs.TypeView.{plain_types}
use Rattle.ob_typed.specs.TypedView.{typed_stmt}
use Rattle.ob_homes.specs.Flags.{with_stmt}
use Rattle.ob_homes.proofs.exposed.+statements.Given as goal

abbrev pub invariant-expose_in_stmts-loop-stmt : goal.invariant-expose_in_stmts-loop-stmt
invariant-expose_in_stmts-loop-stmt l = l.flags ≡ fold (λ fs x. with_stmt (typed_stmt x) (plain_types l.locals) fs) l.fn.flags (take l.stmt-index l.stmts)
