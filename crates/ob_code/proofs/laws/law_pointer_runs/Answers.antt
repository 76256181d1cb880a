use Rattle.std.proofs.Common.{refl}
use Rattle.ob_words.specs.Conversion.{convert, residue}
use Rattle.ob_words.specs.Fields.{from_bytes, low_bytes}
use Rattle.ob_code.proofs.laws.law_pointer_runs.Goals as goal

pub returns-clause-slots : goal.returns-clause-slots
unfolding convert residue from_bytes low_bytes
returns-clause-slots c = ((refl, refl), (refl, refl))

pub returns-clause-back : goal.returns-clause-back
unfolding convert residue from_bytes low_bytes
returns-clause-back c = (refl, refl)

pub returns-clause-order : goal.returns-clause-order
unfolding convert residue from_bytes low_bytes
returns-clause-order c = (refl, refl)

pub returns-clause-statics : goal.returns-clause-statics
unfolding convert residue from_bytes low_bytes
returns-clause-statics c = (refl, refl)

pub returns-clause-objects : goal.returns-clause-objects
unfolding convert residue from_bytes low_bytes
returns-clause-objects c = (refl, refl)
