use Rattle.std.proofs.Common.{◌<◌, length, sym, subst, arith, rules}
use Rattle.std.proofs.lemmas.Grind.{common_steps}
use Rattle.ob_tree.specs.ExpressionView.{spec_tree}
use Rattle.ob_tree.specs.TypeView.{plain_type}
use Rattle.ob_context.specs.KnownView.{env_of, known_of, stand_of}
use Rattle.ob_context.specs.Walks.{Walks}
use Rattle.ob_variables.proofs.Declarators.{base_some}
use Rattle.ob_variables.proofs.declarations.base_type.Goals as goal

pub returns-else-is_empty-clause-walks : goal.returns-else-is_empty-clause-walks
returns-else-is_empty-clause-walks c =
    let k = c.args.known.now in
    let some : 0 < length c.args.names.now.items = first_of (search rules, grind (arith, common_steps)) in
    let e = base_some (env_of c.args.env.now (stand_of k)) (spec_tree c.args.s.now) c.args.names.now.items (known_of k) some in
    subst (λ w. Walks plain_type c.check_spec.result (known_of c.check_spec.new.known) w) (sym e) c.check_spec.ensures.walks
