use Rattle.std.proofs.Common.{refl}
use Rattle.ob_words.specs.Conversion.{convert, residue}
use Rattle.ob_words.specs.Fields.{from_bytes, low_bytes}
use Rattle.ob_meaning.proofs.ShownValues.{shown_is_loaded}
use Rattle.ob_meaning.proofs.laws.law_shown.Goals as goal

pub returns-clause-variables : goal.returns-clause-variables
unfolding convert residue from_bytes low_bytes
returns-clause-variables c = refl

pub returns-clause-statics : goal.returns-clause-statics
unfolding convert residue from_bytes low_bytes
returns-clause-statics c = refl

pub returns-clause-loaded : goal.returns-clause-loaded
returns-clause-loaded c = shown_is_loaded
