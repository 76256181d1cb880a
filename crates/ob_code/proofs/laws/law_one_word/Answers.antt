use Rattle.ob_code.proofs.OneWord.{one_word}
use Rattle.ob_code.proofs.laws.law_one_word.Goals as goal

pub returns : goal.returns
returns c = one_word
