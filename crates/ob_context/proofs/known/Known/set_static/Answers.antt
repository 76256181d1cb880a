use Rattle.std.proofs.Common.{ap}
use Rattle.std.specs.Prelude.{List, map}
use Rattle.std.proofs.lemmas.List.{map-set}
use Rattle.ob_typed.specs.Scopes.{Known as PlainKnown}
use Rattle.ob_typed.specs.TypedTree.{TypedObject}
use Rattle.ob_typed.specs.TypedView.{typed_object}
use Rattle.ob_members.specs.StructuresView.{plain_structures}
use Rattle.ob_context.specs.KnownView.{called_as}
use Rattle.ob_context.proofs.known.Known.set_static.Goals as goal

pub returns-in-Some-clause-known : goal.returns-in-Some-clause-known
returns-in-Some-clause-known c =
    let k = c.args.self.now in
    let put : List TypedObject → PlainKnown = λ os. record { structs = plain_structures k.structs; tags = k.tags.bindings; statics = os; calls = map called_as k.calls.items } in
    ap put (map-set typed_object k.statics.items c.args.number c.args.object)
