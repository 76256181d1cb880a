use Rattle.std.proofs.Common.{ap, ◌∙◌}
use Rattle.ob_tree.specs.Trees.{TypeTree}
use Rattle.ob_tree.specs.ExpressionView.{spec_tree, dim_trees}
use Rattle.ob_library.proofs.Views.{type_made}
use Rattle.ob_library.proofs.types.type_of.Goals as goal

pub returns : goal.returns
returns c =
    type_made c.args.spec 0 c.new.result ∙ ap (λ ds. TypeTree.TypeName (spec_tree c.args.spec) 0 (dim_trees ds)) c.new.ensures.items
