use Rattle.ob_tree.specs.TypeView.{plain_type}
use Rattle.ob_tree.specs.StructsView.{plain_structs}
use Rattle.ob_tree.specs.Sizes.{layout}
use Rattle.ob_layout.specs.Capped.{shown}
use Rattle.ob_layout.proofs.Layouts.{uncapped, fits_within}
use Rattle.ob_layout.proofs.sizes.complete.Goals as goal

pub returns : goal.returns
returns c = uncapped (layout (plain_structs c.args.s.now) (plain_type c.args.t.now)) (shown c.laid.result) (fits_within (layout (plain_structs c.args.s.now) (plain_type c.args.t.now)) c.requires) c.laid.ensures c.laid.result.scalars_few
