use Rattle.std.proofs.Common.{refl}
use Rattle.ob_words.specs.Conversion.{convert, residue}
use Rattle.ob_words.specs.Fields.{from_bytes, low_bytes}
use Rattle.ob_code.proofs.laws.law_number_runs.Goals as goal

pub returns-clause-chars : goal.returns-clause-chars
unfolding convert residue from_bytes low_bytes
returns-clause-chars c = ((refl, refl), (refl, refl))

pub returns-clause-division : goal.returns-clause-division
unfolding convert residue from_bytes low_bytes
returns-clause-division c = (refl, refl)

pub returns-clause-displacements : goal.returns-clause-displacements
unfolding convert residue from_bytes low_bytes
returns-clause-displacements c = ((refl, refl), (refl, refl))

pub returns-clause-input : goal.returns-clause-input
unfolding convert residue from_bytes low_bytes
returns-clause-input c = ((refl, refl), (refl, refl))

pub returns-clause-bytes : goal.returns-clause-bytes
unfolding convert residue from_bytes low_bytes
returns-clause-bytes c = (refl, refl)
