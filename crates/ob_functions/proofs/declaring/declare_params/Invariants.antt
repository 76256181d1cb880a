use Rattle.std.proofs.Common.{◌≡◌, drop, length}
use Rattle.ob_typed.specs.Functions.{with_parameters}
use Rattle.ob_scopes.specs.Names.{declared_in}
use Rattle.ob_context.specs.KnownView.{stand_of}
use Rattle.ob_functions.specs.FunctionView.{parameters}
use Rattle.ob_functions.proofs.declaring.declare_params.Given as goal

abbrev pub invariant-loop-number : goal.invariant-loop-number
invariant-loop-number l = record {
  declared :
      with_parameters (length (stand_of l.known).outer) 0 (declared_in l.fn.env.names) (parameters l.params.items)
      ≡ with_parameters (length (stand_of l.known).outer) l.number (declared_in l.env.names) (parameters (drop l.number l.params.items));
  scopes : l.env.names.outer ≡ l.fn.env.names.outer;
  bodies : l.env.bodies ≡ l.fn.env.bodies;
}
