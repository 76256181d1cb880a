use Rattle.std.proofs.Common.{refl}
use Rattle.ob_words.specs.Conversion.{convert, residue}
use Rattle.ob_words.specs.Fields.{from_bytes, low_bytes}
use Rattle.ob_meaning.proofs.laws.law_heap.Goals as goal

pub returns-clause-first_fit : goal.returns-clause-first_fit
unfolding convert residue from_bytes low_bytes
returns-clause-first_fit c = (refl, refl)

pub returns-clause-full : goal.returns-clause-full
unfolding convert residue from_bytes low_bytes
returns-clause-full c = refl

pub returns-clause-dead : goal.returns-clause-dead
unfolding convert residue from_bytes low_bytes
returns-clause-dead c = refl

pub returns-clause-dead_kept : goal.returns-clause-dead_kept
unfolding convert residue from_bytes low_bytes
returns-clause-dead_kept c = refl

pub returns-clause-dead_unlimited : goal.returns-clause-dead_unlimited
unfolding convert residue from_bytes low_bytes
returns-clause-dead_unlimited c = refl

pub returns-clause-other : goal.returns-clause-other
unfolding convert residue from_bytes low_bytes
returns-clause-other c = refl
