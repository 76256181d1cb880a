use Rattle.ob_parser.proofs.OneAnswer.{some-answer}
use Rattle.ob_parser.proofs.laws.law_some_answer.Goals as goal

pub returns : goal.returns
returns c = some-answer
