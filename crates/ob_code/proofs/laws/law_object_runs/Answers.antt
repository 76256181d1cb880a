use Rattle.std.proofs.Common.{refl}
use Rattle.ob_words.specs.Conversion.{convert, residue}
use Rattle.ob_words.specs.Fields.{from_bytes, low_bytes}
use Rattle.ob_code.proofs.laws.law_object_runs.Goals as goal

pub returns-clause-heap : goal.returns-clause-heap
unfolding convert residue from_bytes low_bytes
returns-clause-heap c = ((refl, refl), (refl, refl))

pub returns-clause-reuse : goal.returns-clause-reuse
unfolding convert residue from_bytes low_bytes
returns-clause-reuse c = (refl, refl)

pub returns-clause-array : goal.returns-clause-array
unfolding convert residue from_bytes low_bytes
returns-clause-array c = (refl, refl)

pub returns-clause-frees : goal.returns-clause-frees
unfolding convert residue from_bytes low_bytes
returns-clause-frees c = (refl, refl)

pub returns-clause-locals : goal.returns-clause-locals
unfolding convert residue from_bytes low_bytes
returns-clause-locals c = (refl, refl)

pub returns-clause-strays : goal.returns-clause-strays
unfolding convert residue from_bytes low_bytes
returns-clause-strays c = ((refl, refl), (refl, refl))

pub returns-clause-inner : goal.returns-clause-inner
unfolding convert residue from_bytes low_bytes
returns-clause-inner c = (refl, refl)
