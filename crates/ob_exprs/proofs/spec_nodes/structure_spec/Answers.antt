use Rattle.ob_exprs.proofs.Views.{struct_tree}
use Rattle.ob_exprs.proofs.spec_nodes.structure_spec.Goals as goal

pub returns : goal.returns
returns c = struct_tree c.args.first c.args.tag c.args.members
