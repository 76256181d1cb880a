use Rattle.std.proofs.Common.{refl}
use Rattle.ob_words.specs.Conversion.{convert, residue}
use Rattle.ob_words.specs.Fields.{low_bytes}
use Rattle.ob_typed.proofs.laws.law_more_sampled_trees.Goals as goal

pub returns-clause-nine : goal.returns-clause-nine
unfolding convert residue low_bytes
returns-clause-nine c = refl

pub returns-clause-ten : goal.returns-clause-ten
unfolding convert residue low_bytes
returns-clause-ten c = refl

pub returns-clause-eleven : goal.returns-clause-eleven
unfolding convert residue low_bytes
returns-clause-eleven c = refl

pub returns-clause-twelve : goal.returns-clause-twelve
unfolding convert residue low_bytes
returns-clause-twelve c = refl

pub returns-clause-thirteen : goal.returns-clause-thirteen
unfolding convert residue low_bytes
returns-clause-thirteen c = refl

pub returns-clause-fourteen : goal.returns-clause-fourteen
unfolding convert residue low_bytes
returns-clause-fourteen c = refl

pub returns-clause-fifteen : goal.returns-clause-fifteen
unfolding convert residue low_bytes
returns-clause-fifteen c = refl

pub returns-clause-sixteen : goal.returns-clause-sixteen
unfolding convert residue low_bytes
returns-clause-sixteen c = refl
