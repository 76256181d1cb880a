use Rattle.std.proofs.Common.{refl}
use Rattle.ob_words.specs.Conversion.{convert, residue}
use Rattle.ob_words.specs.Fields.{from_bytes, low_bytes}
use Rattle.ob_meaning.proofs.laws.law_drops.Goals as goal

pub returns-clause-kept : goal.returns-clause-kept
unfolding convert residue from_bytes low_bytes
returns-clause-kept c = refl

pub returns-clause-unlimited : goal.returns-clause-unlimited
unfolding convert residue from_bytes low_bytes
returns-clause-unlimited c = refl

pub returns-clause-first : goal.returns-clause-first
unfolding convert residue from_bytes low_bytes
returns-clause-first c = refl

pub returns-clause-recent : goal.returns-clause-recent
unfolding convert residue from_bytes low_bytes
returns-clause-recent c = refl
