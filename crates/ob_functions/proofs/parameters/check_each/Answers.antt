use Rattle.std.proofs.Common.{rules, arith}
use Rattle.std.proofs.lemmas.Grind.{common_steps}
use Rattle.ob_context.specs.KnownView.{env_of, known_of, stand_of}
use Rattle.ob_functions.specs.FunctionView.{parameters}
use Rattle.ob_functions.proofs.Params.{params_on}
use Rattle.ob_functions.proofs.parameters.check_each.Goals as goal

pub loop-p-preserved : goal.loop-p-preserved
loop-p-preserved c =
    let on = params_on (env_of c.args.env.now (stand_of c.args.known.now)) (env_of c.loop-p.env (stand_of c.loop-p.known)) (env_of c.add_parameter.new.env (stand_of c.add_parameter.new.known))
    _ (parameters c.loop-p.done.items) (parameters c.add_parameter.new.done.items) c.args.params.now.items c.deref-p-items.result.now c.loop-p.p-index c.p-item.result (known_of c.loop-p.known) (known_of c.add_parameter.new.known)
    c.loop-p.invariant.walks c.loop-p.invariant.among c.deref-p-items.ensures.value c.loop-p-test.true c.p-item.is c.in_ok-add_parameter.ensures.walks in
    record {
      walks = on.0;
      among = on.1;
      stands = first_of (search rules, grind (arith, common_steps));
      scopes = first_of (search rules, grind (arith, common_steps));
      bodies = first_of (search rules, grind (arith, common_steps));
    }
