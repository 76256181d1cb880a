use Rattle.std.proofs.Common.{refl}
use Rattle.ob_words.specs.Conversion.{convert, residue}
use Rattle.ob_typed.proofs.laws.law_first_faults.Goals as goal

pub returns-clause-length_divides : goal.returns-clause-length_divides
unfolding convert residue
returns-clause-length_divides c = refl
