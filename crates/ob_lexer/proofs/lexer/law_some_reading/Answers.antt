use Rattle.ob_lexer.proofs.SomeReading.{some-reading}
use Rattle.ob_lexer.proofs.lexer.law_some_reading.Goals as goal

pub returns : goal.returns
returns c = some-reading
