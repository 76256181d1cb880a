use Rattle.std.proofs.Common.{refl}
use Rattle.ob_words.specs.Conversion.{convert, residue}
use Rattle.ob_words.specs.Fields.{from_bytes, low_bytes}
use Rattle.ob_code.proofs.laws.law_freed_runs.Goals as goal

pub returns-clause-accesses : goal.returns-clause-accesses
unfolding convert residue from_bytes low_bytes
returns-clause-accesses c = ((refl, refl), (refl, refl))

pub returns-clause-block : goal.returns-clause-block
unfolding convert residue from_bytes low_bytes
returns-clause-block c = ((refl, refl), (refl, refl))

pub returns-clause-pointer : goal.returns-clause-pointer
unfolding convert residue from_bytes low_bytes
returns-clause-pointer c = (refl, refl)

pub returns-clause-granules : goal.returns-clause-granules
unfolding convert residue from_bytes low_bytes
returns-clause-granules c = (refl, refl)
