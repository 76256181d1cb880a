use Rattle.ob_tree.specs.StructLayouts.{kept_layout}
use Rattle.ob_tree.specs.StructsView.{plain_structs}
use Rattle.ob_tree.proofs.KeptLayouts.{layout_of_members}
use Rattle.ob_tree.proofs.structs.Structs.law_members.Goals as goal

pub returns : goal.returns
returns c ms bare =
    layout_of_members (plain_structs c.args.self.now) (kept_layout c.args.self.now.rows.items) (record { right = c.args.self.now.right; known = c.args.self.now.known }) c.args.number ms bare
