use Rattle.ob_words.proofs.Writes.{field-below, get_then_put}
use Rattle.ob_words.proofs.laws.law_get.Goals as goal

pub returns-clause-below : goal.returns-clause-below
returns-clause-below c = field-below

pub returns-clause-put_after_get : goal.returns-clause-put_after_get
returns-clause-put_after_get c = get_then_put
