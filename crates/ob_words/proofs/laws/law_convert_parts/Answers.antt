use Rattle.ob_words.proofs.Conversions.{convert_sum, convert_difference, convert_product}
use Rattle.ob_words.proofs.laws.law_convert_parts.Goals as goal

pub returns-clause-sum : goal.returns-clause-sum
returns-clause-sum c = convert_sum

pub returns-clause-difference : goal.returns-clause-difference
returns-clause-difference c = convert_difference

pub returns-clause-product : goal.returns-clause-product
returns-clause-product c = convert_product
