use Rattle.std.proofs.Common.{refl}
use Rattle.ob_words.specs.Conversion.{convert, residue}
use Rattle.ob_words.specs.Fields.{from_bytes, low_bytes}
use Rattle.ob_meaning.proofs.laws.law_no_place.Goals as goal

pub returns-clause-null : goal.returns-clause-null
unfolding convert residue from_bytes low_bytes
returns-clause-null c = refl

pub returns-clause-null_kept : goal.returns-clause-null_kept
unfolding convert residue from_bytes low_bytes
returns-clause-null_kept c = refl

pub returns-clause-null_unlimited : goal.returns-clause-null_unlimited
unfolding convert residue from_bytes low_bytes
returns-clause-null_unlimited c = refl

pub returns-clause-ill_aligned : goal.returns-clause-ill_aligned
unfolding convert residue from_bytes low_bytes
returns-clause-ill_aligned c = refl

pub returns-clause-ill_aligned_kept : goal.returns-clause-ill_aligned_kept
unfolding convert residue from_bytes low_bytes
returns-clause-ill_aligned_kept c = refl

pub returns-clause-ill_aligned_unlimited : goal.returns-clause-ill_aligned_unlimited
unfolding convert residue from_bytes low_bytes
returns-clause-ill_aligned_unlimited c = refl
