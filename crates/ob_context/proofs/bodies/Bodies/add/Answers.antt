use Rattle.std.proofs.Common.{◌≡◌, ℕ, List, ◌∷◌, length, ap, subst, sym, arith, ◌∙◌}
use Rattle.ob_scopes.specs.Bindings.{Scopes}
use Rattle.ob_typed.specs.Expressions.{number_from}
use Rattle.ob_context.specs.Numbered.{AreNumbered}
use Rattle.ob_context.proofs.Numbers.{numbered-more}
use Rattle.ob_context.proofs.bodies.Bodies.add.Goals as goal

pub invariant_of-self-2 : goal.invariant_of-self-2
invariant_of-self-2 c =
    let old = c.self.inside.numbers.bindings in
    let k = c.number-number.result in
    let name = c.args.name.now in
    let is : c.declare.new.self.bindings ≡ (name, k) ∷ old = ap (λ (s : Scopes (List ℕ × ℕ)). s.bindings) c.in_ok-declare.ensures.ok in
    let number = c.number-number.ensures ∙ ap (number_from 0 name) (sym c.self.view_is) in
    (subst AreNumbered (sym is) (numbered-more old name k c.self.invariant.0 number), omega (arith, c.self.invariant.1, ap length is))
