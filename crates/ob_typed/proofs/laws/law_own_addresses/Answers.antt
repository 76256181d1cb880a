use Rattle.std.proofs.Common.{refl}
use Rattle.ob_words.specs.Conversion.{convert, residue}
use Rattle.ob_words.specs.Fields.{low_bytes}
use Rattle.ob_typed.proofs.laws.law_own_addresses.Goals as goal

pub returns-clause-inside : goal.returns-clause-inside
unfolding convert residue low_bytes
returns-clause-inside c = refl

pub returns-clause-end : goal.returns-clause-end
unfolding convert residue low_bytes
returns-clause-end c = refl

pub returns-clause-past : goal.returns-clause-past
unfolding convert residue low_bytes
returns-clause-past c = refl
