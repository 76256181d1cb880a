use Rattle.std.proofs.Common.{refl}
use Rattle.ob_words.specs.Conversion.{convert, residue}
use Rattle.ob_words.specs.Fields.{from_bytes, low_bytes}
use Rattle.ob_code.proofs.laws.law_shown.Goals as goal

pub returns-clause-variables : goal.returns-clause-variables
unfolding convert residue from_bytes low_bytes
returns-clause-variables c = refl

pub returns-clause-ended : goal.returns-clause-ended
unfolding convert residue from_bytes low_bytes
returns-clause-ended c = refl
