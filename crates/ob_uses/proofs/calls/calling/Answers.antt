use Rattle.std.proofs.Common.{◌≡◌, Some, arith, rules}
use Rattle.std.proofs.lemmas.Grind.{common_steps}
use Rattle.ob_typed.specs.Expressions.{noted}
use Rattle.ob_scopes.specs.Names.{declared_as, plain_meaning}
use Rattle.ob_conversions.specs.CheckedView.{checked, mark}
use Rattle.ob_context.specs.KnownView.{env_of, known_of, stand_of}
use Rattle.ob_uses.specs.ArgumentView.{arguments}
use Rattle.ob_uses.proofs.WalksOfRules.{walks_calling}
use Rattle.ob_uses.proofs.calls.calling.Goals as goal

pub returns-in_ok-given-in-Some-clause-walks : goal.returns-in_ok-given-in-Some-clause-walks
returns-in_ok-given-in-Some-clause-walks c =
    let same : arguments c.in_ok-given-in-Some.given.items ≡ arguments c.args.given.items = first_of (search rules, grind (arith, common_steps)) in
    let known : known_of c.note.new.known ≡ noted (mark c.args.m) c.args.name.now (Some (plain_meaning c.in-Some.named.now.meaning)) (known_of c.args.known.now) = first_of (search rules, grind (arith, common_steps)) in
    walks_calling checked c.call_rule.result (env_of c.args.env.now (stand_of c.args.known.now)) (mark c.args.m) c.args.name.now (arguments c.in_ok-given-in-Some.given.items) (arguments c.args.given.items)
    (known_of c.note.new.known) (known_of c.args.known.now) (declared_as (c.args.name.now, c.in-Some.named.now)) c.number.result c.in-Some.ensures c.number.ensures same known (c.call_rule.ensures c.args.name.now c.in-Some.named.now.depth)
