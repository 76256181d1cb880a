use Rattle.std.proofs.Common.{refl}
use Rattle.ob_words.specs.Conversion.{convert, residue}
use Rattle.ob_words.specs.Fields.{low_bytes}
use Rattle.ob_typed.proofs.laws.law_typed_trees.Goals as goal

pub returns-clause-strings : goal.returns-clause-strings
unfolding convert residue low_bytes
returns-clause-strings c = refl
