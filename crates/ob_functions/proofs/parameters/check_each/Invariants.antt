use Rattle.std.proofs.Common.{◌≡◌, [], ◌∷◌, drop, map}
use Rattle.ob_tree.specs.ProgramView.{param_tree}
use Rattle.ob_typed.specs.Functions.{check_each, parameter_env}
use Rattle.ob_context.specs.KnownView.{env_of, known_of, stand_of, within}
use Rattle.ob_functions.specs.FunctionView.{parameters}
use Rattle.ob_functions.proofs.parameters.check_each.Given as goal

abbrev pub invariant-loop-p : goal.invariant-loop-p
invariant-loop-p l =
    let env = env_of l.fn.env (stand_of l.fn.known) in
    record {
      walks :
          check_each env [] (map param_tree l.params.items) (known_of l.fn.known)
          ≡ check_each env (parameters l.done.items) (map param_tree (drop l.p-index l.params.items)) (known_of l.known);
      among : env_of l.env (stand_of l.known) ≡ parameter_env env (parameters l.done.items);
      stands : stand_of l.known ≡ within (known_of l.fn.known).tags (stand_of l.fn.known);
      scopes : l.env.names.outer ≡ l.fn.env.names.bindings ∷ l.fn.env.names.outer;
      bodies : l.env.bodies ≡ l.fn.env.bodies;
    }
