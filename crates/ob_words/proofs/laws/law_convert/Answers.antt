use Rattle.ob_words.proofs.Conversions.{conversion}
use Rattle.ob_words.proofs.laws.law_convert.Goals as goal

pub returns : goal.returns
returns c = conversion
