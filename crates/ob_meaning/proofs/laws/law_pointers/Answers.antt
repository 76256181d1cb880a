use Rattle.std.proofs.Common.{refl}
use Rattle.ob_words.specs.Conversion.{convert, residue}
use Rattle.ob_words.specs.Fields.{from_bytes, low_bytes}
use Rattle.ob_meaning.proofs.laws.law_pointers.Goals as goal

pub returns-clause-back : goal.returns-clause-back
unfolding convert residue from_bytes low_bytes
returns-clause-back c = refl

pub returns-clause-equality : goal.returns-clause-equality
unfolding convert residue from_bytes low_bytes
returns-clause-equality c = refl

pub returns-clause-count : goal.returns-clause-count
unfolding convert residue from_bytes low_bytes
returns-clause-count c = refl

pub returns-clause-far : goal.returns-clause-far
unfolding convert residue from_bytes low_bytes
returns-clause-far c = refl
