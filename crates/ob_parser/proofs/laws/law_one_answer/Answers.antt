use Rattle.ob_parser.proofs.OneAnswer.{one-answer}
use Rattle.ob_parser.proofs.laws.law_one_answer.Goals as goal

pub returns : goal.returns
returns c = one-answer
