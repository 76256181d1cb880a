use Rattle.ob_words.proofs.Writes.{put_then_get, kept_apart, length-with_field}
use Rattle.ob_words.proofs.laws.law_put.Goals as goal

pub returns-clause-get_after_put : goal.returns-clause-get_after_put
returns-clause-get_after_put c = put_then_get

pub returns-clause-apart : goal.returns-clause-apart
returns-clause-apart c = kept_apart

pub returns-clause-length : goal.returns-clause-length
returns-clause-length c = length-with_field
