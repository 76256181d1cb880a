use Rattle.ob_lexer.proofs.Scanning.{spells-same, spells-no-fault, stops-same}
use Rattle.ob_lexer.proofs.lexer.law_one_reading.Goals as goal

pub returns : goal.returns
returns c = record { one_spelling = spells-same; no_fault = spells-no-fault; one_fault = stops-same }
