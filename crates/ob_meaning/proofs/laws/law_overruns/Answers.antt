use Rattle.std.proofs.Common.{refl}
use Rattle.ob_words.specs.Conversion.{convert, residue}
use Rattle.ob_words.specs.Fields.{from_bytes, low_bytes}
use Rattle.ob_meaning.proofs.laws.law_overruns.Goals as goal

pub returns-clause-reads : goal.returns-clause-reads
unfolding convert residue from_bytes low_bytes
returns-clause-reads c = refl

pub returns-clause-vanishes : goal.returns-clause-vanishes
unfolding convert residue from_bytes low_bytes
returns-clause-vanishes c = refl

pub returns-clause-kept : goal.returns-clause-kept
unfolding convert residue from_bytes low_bytes
returns-clause-kept c = refl

pub returns-clause-unlimited : goal.returns-clause-unlimited
unfolding convert residue from_bytes low_bytes
returns-clause-unlimited c = refl

pub returns-clause-neighbour : goal.returns-clause-neighbour
unfolding convert residue from_bytes low_bytes
returns-clause-neighbour c = refl

pub returns-clause-neighbour_of_kept : goal.returns-clause-neighbour_of_kept
unfolding convert residue from_bytes low_bytes
returns-clause-neighbour_of_kept c = refl

pub returns-clause-neighbour_of_unlimited : goal.returns-clause-neighbour_of_unlimited
unfolding convert residue from_bytes low_bytes
returns-clause-neighbour_of_unlimited c = refl

pub returns-clause-pointer : goal.returns-clause-pointer
unfolding convert residue from_bytes low_bytes
returns-clause-pointer c = refl

pub returns-clause-last_granule : goal.returns-clause-last_granule
unfolding convert residue from_bytes low_bytes
returns-clause-last_granule c = refl

pub returns-clause-last_granule_kept : goal.returns-clause-last_granule_kept
unfolding convert residue from_bytes low_bytes
returns-clause-last_granule_kept c = refl
