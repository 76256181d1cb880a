use Rattle.ob_model.proofs.Astray.{strays_are_others, others_inside, strays_vanish, ill_aligned_vanish, freed_vanish}
use Rattle.ob_model.proofs.laws.law_strays.Goals as goal

pub returns-clause-others : goal.returns-clause-others
returns-clause-others c = strays_are_others

pub returns-clause-inside : goal.returns-clause-inside
returns-clause-inside c = others_inside

pub returns-clause-vanishing : goal.returns-clause-vanishing
returns-clause-vanishing c = strays_vanish

pub returns-clause-ill_aligned : goal.returns-clause-ill_aligned
returns-clause-ill_aligned c = ill_aligned_vanish

pub returns-clause-freed : goal.returns-clause-freed
returns-clause-freed c = freed_vanish
