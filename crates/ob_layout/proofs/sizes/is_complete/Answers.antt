use Rattle.std.proofs.Common.{option_map, sym, ap, ◌∙◌}
use Rattle.ob_layout.specs.Capped.{shown}
use Rattle.ob_layout.proofs.Layouts.{fits_some, fits_none}
use Rattle.ob_layout.proofs.sizes.is_complete.Goals as goal

pub returns-in-Some : goal.returns-in-Some
returns-in-Some c = fits_some _ (shown c.in-Some.l) (sym (ap (option_map shown) c.in-Some.is) ∙ c.type_layout.ensures)

pub returns-in-None : goal.returns-in-None
returns-in-None c = sym (fits_none _ (sym (ap (option_map shown) c.in-None.is) ∙ c.type_layout.ensures))
