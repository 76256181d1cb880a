use Rattle.std.proofs.Common.{refl}
use Rattle.ob_words.specs.Conversion.{convert, residue}
use Rattle.ob_words.specs.Fields.{from_bytes, low_bytes}
use Rattle.ob_code.proofs.laws.law_stray_runs.Goals as goal

pub returns-clause-recency : goal.returns-clause-recency
unfolding convert residue from_bytes low_bytes
returns-clause-recency c = (refl, refl)

pub returns-clause-vanishing : goal.returns-clause-vanishing
unfolding convert residue from_bytes low_bytes
returns-clause-vanishing c = ((refl, refl), (refl, refl))

pub returns-clause-pointers : goal.returns-clause-pointers
unfolding convert residue from_bytes low_bytes
returns-clause-pointers c = (refl, refl)

pub returns-clause-slots : goal.returns-clause-slots
unfolding convert residue from_bytes low_bytes
returns-clause-slots c = (refl, refl)

pub returns-clause-granules : goal.returns-clause-granules
unfolding convert residue from_bytes low_bytes
returns-clause-granules c = (refl, refl)
