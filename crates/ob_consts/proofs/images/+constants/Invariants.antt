use Rattle.std.proofs.Common.{◌≡◌, drop}
use Rattle.std.specs.List.{list_all}
use Rattle.ob_tree.specs.StructsView.{plain_structs}
use Rattle.ob_tree.specs.TypeView.{plain_types}
use Rattle.ob_typed.specs.TypedView.{typed_init}
use Rattle.ob_consts.specs.ConstantItems.{are_constants}
use Rattle.ob_consts.proofs.images.+constants.Given as goal

abbrev pub invariant-are_constant_items-loop-item : goal.invariant-are_constant_items-loop-item
invariant-are_constant_items-loop-item l =
    list_all (λ x. are_constants (plain_structs l.s) (plain_types l.statics.items) (typed_init x)) l.items
    ≡ list_all (λ x. are_constants (plain_structs l.s) (plain_types l.statics.items) (typed_init x)) (drop l.item-index l.items)
