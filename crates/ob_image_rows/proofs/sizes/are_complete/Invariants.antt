use Rattle.std.proofs.Common.{◌≡◌, true, take}
use Rattle.std.specs.List.{list_all}
use Rattle.ob_tree.specs.Sizes.{is_complete}
use Rattle.ob_tree.specs.StructsView.{plain_structs}
use Rattle.ob_tree.specs.TypeView.{plain_type}
use Rattle.ob_image_rows.proofs.sizes.are_complete.Given as goal

abbrev pub invariant-loop-t : goal.invariant-loop-t
invariant-loop-t l = list_all (λ t. is_complete (plain_structs l.s) (plain_type t)) (take l.t-index l.types) ≡ true
