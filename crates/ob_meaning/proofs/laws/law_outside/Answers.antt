use Rattle.std.proofs.Common.{refl}
use Rattle.ob_words.specs.Conversion.{convert, residue}
use Rattle.ob_words.specs.Fields.{from_bytes, low_bytes}
use Rattle.ob_meaning.proofs.laws.law_outside.Goals as goal

pub returns-clause-before : goal.returns-clause-before
unfolding convert residue from_bytes low_bytes
returns-clause-before c = refl

pub returns-clause-before_unlimited : goal.returns-clause-before_unlimited
unfolding convert residue from_bytes low_bytes
returns-clause-before_unlimited c = refl

pub returns-clause-unset : goal.returns-clause-unset
unfolding convert residue from_bytes low_bytes
returns-clause-unset c = refl

pub returns-clause-unset_unlimited : goal.returns-clause-unset_unlimited
unfolding convert residue from_bytes low_bytes
returns-clause-unset_unlimited c = refl

pub returns-clause-pointer : goal.returns-clause-pointer
unfolding convert residue from_bytes low_bytes
returns-clause-pointer c = refl

pub returns-clause-pointer_unlimited : goal.returns-clause-pointer_unlimited
unfolding convert residue from_bytes low_bytes
returns-clause-pointer_unlimited c = refl
