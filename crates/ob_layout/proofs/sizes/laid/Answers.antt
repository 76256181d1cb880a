use Rattle.std.proofs.Common.{option_map, sym, ap, ◌∙◌}
use Rattle.ob_layout.specs.Capped.{shown}
use Rattle.ob_layout.proofs.Layouts.{laid_some, laid_none}
use Rattle.ob_layout.proofs.sizes.laid.Goals as goal

pub returns-in-Some : goal.returns-in-Some
returns-in-Some c = laid_some (shown c.in-Some.l) _ (sym (ap (option_map shown) c.in-Some.is) ∙ c.type_layout.ensures)

pub returns-in-None : goal.returns-in-None
returns-in-None c = c.none.ensures ∙ laid_none _ (sym (ap (option_map shown) c.in-None.is) ∙ c.type_layout.ensures)
