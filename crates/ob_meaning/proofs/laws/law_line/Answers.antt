use Rattle.std.proofs.Common.{refl}
use Rattle.ob_words.specs.Conversion.{convert, residue}
use Rattle.ob_words.specs.Fields.{from_bytes, low_bytes}
use Rattle.ob_meaning.proofs.laws.law_line.Goals as goal

pub returns-clause-cut : goal.returns-clause-cut
unfolding convert residue from_bytes low_bytes
returns-clause-cut c = refl

pub returns-clause-whole : goal.returns-clause-whole
unfolding convert residue from_bytes low_bytes
returns-clause-whole c = refl
