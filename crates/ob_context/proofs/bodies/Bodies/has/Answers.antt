use Rattle.std.proofs.Common.{ap, ◌∙◌}
use Rattle.std.specs.Option.{is_some}
use Rattle.ob_typed.specs.Functions.{is_one_of}
use Rattle.ob_context.proofs.Numbers.{bound-some, found-some}
use Rattle.ob_context.proofs.bodies.Bodies.has.Goals as goal

pub returns : goal.returns
returns c =
    c.is_some.ensures ∙ found-some _ c.find.result ∙ ap is_some c.find.ensures
    ∙ bound-some c.self.inside.numbers.bindings c.args.name.now c.self.invariant.0 ∙ ap (is_one_of c.args.name.now) c.self.view_is
