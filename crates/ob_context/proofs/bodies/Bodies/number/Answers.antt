use Rattle.std.proofs.Common.{ap, ◌∙◌}
use Rattle.ob_typed.specs.Expressions.{number_from}
use Rattle.ob_context.proofs.Numbers.{bound-found, bound-none}
use Rattle.ob_context.proofs.bodies.Bodies.number.Goals as goal

pub returns-in-Some : goal.returns-in-Some
returns-in-Some c =
    bound-found c.self.inside.numbers.bindings c.args.name.now c.in-Some.number.now c.self.invariant.0 c.in-Some.ensures
    ∙ ap (number_from 0 c.args.name.now) c.self.view_is

pub returns-in-None : goal.returns-in-None
returns-in-None c =
    c.self.invariant.1 ∙ bound-none c.self.inside.numbers.bindings c.args.name.now c.self.invariant.0 c.in-None.ensures
    ∙ ap (number_from 0 c.args.name.now) c.self.view_is
