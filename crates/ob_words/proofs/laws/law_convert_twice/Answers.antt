use Rattle.ob_words.proofs.Conversions.{convert_own, convert_twice, convert_wider}
use Rattle.ob_words.proofs.laws.law_convert_twice.Goals as goal

pub returns-clause-own : goal.returns-clause-own
returns-clause-own c = convert_own

pub returns-clause-twice : goal.returns-clause-twice
returns-clause-twice c = convert_twice

pub returns-clause-wider : goal.returns-clause-wider
returns-clause-wider c = convert_wider
