use Rattle.std.proofs.Common.{◌≡◌, [], drop}
use Rattle.ob_tree.specs.ExpressionView.{obj_trees}
use Rattle.ob_tree.specs.TypeView.{plain_type}
use Rattle.ob_typed.specs.Declarations.{check_objects}
use Rattle.ob_context.specs.KnownView.{env_of, stand_of}
use Rattle.ob_variables.specs.BodyView.{body_of, stmts_of}
use Rattle.ob_variables.proofs.declarations.check_objects.Given as goal

abbrev pub invariant-loop-o : goal.invariant-loop-o
invariant-loop-o l = record {
  walks :
      check_objects (env_of l.fn.env (stand_of l.fn.body.known)) l.fixed l.line (plain_type l.base) [] (obj_trees l.names.items) (body_of l.fn.body)
      ≡ check_objects (env_of l.env (stand_of l.body.known)) l.fixed l.line (plain_type l.base) (stmts_of l.statements.items) (obj_trees (drop l.o-index l.names.items)) (body_of l.body);
  stays : stand_of l.body.known ≡ stand_of l.fn.body.known;
  scopes : l.env.names.outer ≡ l.fn.env.names.outer;
  bodies : l.env.bodies ≡ l.fn.env.bodies;
}
