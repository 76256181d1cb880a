use Rattle.std.proofs.Common.{◌≡◌, take}
use Rattle.std.specs.Prelude.{fold}
use Rattle.ob_tree.specs.TypeView.{plain_types}
use Rattle.ob_typed.specs.TypedView.{typed_init}
use Rattle.ob_homes.specs.Flags.{with_own_item}
use Rattle.ob_homes.proofs.exposed.+own.Given as goal

abbrev pub invariant-expose_in_own_items-loop-item : goal.invariant-expose_in_own_items-loop-item
invariant-expose_in_own_items-loop-item l = l.flags ≡ fold (λ fs x. with_own_item l.own (typed_init x) (plain_types l.locals) fs) l.fn.flags (take l.item-index l.items)
