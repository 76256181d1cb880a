use Rattle.std.proofs.Common.{◌≡◌, rules, ◌∙◌}
use Rattle.std.specs.Option.{is_some}
use Rattle.ob_tree.specs.TypeView.{plain_type}
use Rattle.ob_tree.specs.StructsView.{plain_structs}
use Rattle.ob_tree.specs.Sizes.{layout}
use Rattle.ob_layout.specs.Capped.{shown}
use Rattle.ob_layout.proofs.Layouts.{same_some}
use Rattle.ob_layout.proofs.sizes.has_size.Goals as goal

pub returns : goal.returns
returns c =
    let k : c.is_some.result ≡ is_some c.type_layout.result = search rules in
    k ∙ same_some shown c.type_layout.result (layout (plain_structs c.args.s.now) (plain_type c.args.t.now)) c.type_layout.ensures
