use Rattle.ob_consts.proofs.Numbers.{constant_number}
use Rattle.ob_consts.proofs.laws.law_constant_number.Goals as goal

pub returns : goal.returns
returns c = constant_number c.law_convert.ensures c.law_result.ensures.number
