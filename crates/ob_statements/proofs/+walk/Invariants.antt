use Rattle.std.proofs.Common.{◌≡◌, [], drop}
use Rattle.ob_tree.specs.TypeView.{plain_type}
use Rattle.ob_typed.specs.Statements.{check_block}
use Rattle.ob_context.specs.KnownView.{env_of, stand_of}
use Rattle.ob_variables.specs.BodyView.{body_of, stmts_of}
use Rattle.ob_statements.specs.BlockTrees.{block_trees}
use Rattle.ob_statements.proofs.+walk.Given as goal

abbrev pub invariant-walk::check_items-loop-item : goal.invariant-walk::check_items-loop-item
invariant-walk::check_items-loop-item l = record {
  walks :
      check_block (env_of l.fn.env (stand_of l.fn.body.known)) l.in_loop (plain_type l.t) [] (block_trees l.items.items) (body_of l.fn.body)
      ≡ check_block (env_of l.env (stand_of l.body.known)) l.in_loop (plain_type l.t) (stmts_of l.done.items) (block_trees (drop l.item-index l.items.items)) (body_of l.body);
  stays : stand_of l.body.known ≡ stand_of l.fn.body.known;
  scopes : l.env.names.outer ≡ l.fn.env.names.outer;
  bodies : l.env.bodies ≡ l.fn.env.bodies;
}
