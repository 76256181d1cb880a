use Rattle.std.proofs.Common.{arith}
use Rattle.ob_model.proofs.Astray.{eight_places, own_are_counted}
use Rattle.ob_model.proofs.laws.law_granules.Goals as goal

pub returns-clause-places : goal.returns-clause-places
returns-clause-places c = eight_places

pub returns-clause-own : goal.returns-clause-own
returns-clause-own c = own_are_counted

pub returns-clause-last : goal.returns-clause-last
returns-clause-last c = λ size. omega arith
