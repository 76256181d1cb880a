use Rattle.ob_words.proofs.Divisions.{refused, result_number}
use Rattle.ob_words.proofs.laws.law_result.Goals as goal

pub returns-clause-refused : goal.returns-clause-refused
returns-clause-refused c = refused

pub returns-clause-number : goal.returns-clause-number
returns-clause-number c = result_number
