use Rattle.std.proofs.Common.{refl}
use Rattle.ob_words.specs.Conversion.{convert, residue}
use Rattle.ob_words.specs.Fields.{from_bytes, low_bytes}
use Rattle.ob_meaning.proofs.laws.law_ends.Goals as goal

pub returns-clause-division : goal.returns-clause-division
unfolding convert residue from_bytes low_bytes
returns-clause-division c = refl

pub returns-clause-steps : goal.returns-clause-steps
unfolding convert residue from_bytes low_bytes
returns-clause-steps c = refl

pub returns-clause-stack : goal.returns-clause-stack
unfolding convert residue from_bytes low_bytes
returns-clause-stack c = refl

pub returns-clause-input : goal.returns-clause-input
unfolding convert residue from_bytes low_bytes
returns-clause-input c = (refl, refl)
