use Rattle.std.specs.Prelude.{List}
use Rattle.std.proofs.Common.{ap}
use Rattle.std.proofs.lemmas.List.{map-set}
use Rattle.ob_tree.specs.Types.{PlainType}
use Rattle.ob_tree.specs.TypeView.{plain_type}
use Rattle.ob_typed.specs.Declarations.{Body as PlainBody}
use Rattle.ob_context.specs.KnownView.{known_of}
use Rattle.ob_variables.proofs.body.Body.set_local.Goals as goal

pub returns-in-Some-clause-body : goal.returns-in-Some-clause-body
returns-in-Some-clause-body c =
    let b = c.args.self.now in
    let put : List PlainType → PlainBody = λ ts. record { known = known_of b.known; locals = ts; names = b.names.items } in
    ap put (map-set plain_type b.locals.items c.args.number c.args.t)
