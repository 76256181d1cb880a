use Rattle.std.proofs.Common.{ap}
use Rattle.ob_tree.specs.ExpressionView.{spec_tree}
use Rattle.ob_tree.specs.ProgramView.{params_tree, stmt_tree}
use Rattle.ob_tree.specs.TypeView.{plain_type}
use Rattle.ob_context.specs.KnownView.{env_of, known_of, stand_of}
use Rattle.ob_types.specs.FileView.{file_of}
use Rattle.ob_types.proofs.Parts.{of_spec}
use Rattle.ob_types.proofs.functions.check_function.Goals as goal

pub returns-clause-is : goal.returns-clause-is
returns-clause-is c =
    let file = c.args.file.now in
    of_spec _ c.with_body-checked.result file.env.bodies (file_of file) (spec_tree c.args.spec.now) c.args.stars c.args.name.now c.args.at (params_tree c.args.params.now) (stmt_tree c.args.body.now)
    (plain_type c.in_ok-base.base) (plain_type c.in_ok-t.t) c.in_ok-nodes.nodes (known_of c.check_spec.new.known) (env_of file.env (stand_of file.body.known))
    (ap (env_of file.env) c.requires.stand) c.in_ok-base.ensures.walks c.in_ok-t.ensures c.in_ok-nodes.ensures c.with_body-checked.ensures.is
