use Rattle.std.proofs.Common.{refl}
use Rattle.ob_words.specs.Fields.{from_bytes, low_bytes}
use Rattle.ob_frames.proofs.laws.law_frames.Goals as goal

pub returns-clause-links : goal.returns-clause-links
unfolding from_bytes low_bytes
returns-clause-links c = (refl, refl, refl, refl)

pub returns-clause-zeros : goal.returns-clause-zeros
unfolding from_bytes low_bytes
returns-clause-zeros c = (refl, refl)
