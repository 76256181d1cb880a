use Rattle.std.proofs.Common.{rules, tests, ap, ◌∙◌}
use Rattle.std.specs.Prelude.{nat_eq}
use Rattle.std.proofs.lemmas.Iterator.{YieldsList-from_slice}
use Rattle.std.proofs.lemmas.Iterator.Search.{any_from_yields_List}
use Rattle.ob_typed.specs.Specifiers.{is_around}
use Rattle.ob_context.proofs.Opened.{around-reverse}
use Rattle.ob_context.proofs.around.Around.has.Goals as goal

pub returns : goal.returns
returns c =
    let n = c.args.number in
    let xs = c.self.inside.numbers.items in
    any_from_yields_List (λ m. nat_eq m n) _ _ _ c.any.ensures.ran (YieldsList-from_slice xs cc) (λ x b q k. search (rules, tests))
    ∙ around-reverse n xs ∙ ap (is_around n) c.self.view_is
