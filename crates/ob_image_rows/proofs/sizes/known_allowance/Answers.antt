use Rattle.std.proofs.Common.{rules, ◌≡◌, true}
use Rattle.std.specs.List.{list_all}
use Rattle.ob_tree.specs.Sizes.{is_complete}
use Rattle.ob_tree.specs.StructsView.{plain_structs}
use Rattle.ob_tree.specs.TypeView.{plain_type}
use Rattle.ob_image_rows.proofs.RowLists.{all_complete}
use Rattle.ob_image_rows.proofs.sizes.known_allowance.Goals as goal

pub allowance-requires-clause-complete : goal.allowance-requires-clause-complete
allowance-requires-clause-complete c =
    let pass : list_all (λ t. is_complete (plain_structs c.args.s.now) (plain_type t)) c.args.locals.now.items ≡ true = search rules in
    all_complete (plain_structs c.args.s.now) c.args.locals.now.items pass
