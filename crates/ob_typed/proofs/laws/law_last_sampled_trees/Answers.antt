use Rattle.std.proofs.Common.{refl}
use Rattle.ob_words.specs.Conversion.{convert, residue}
use Rattle.ob_words.specs.Fields.{low_bytes}
use Rattle.ob_typed.proofs.laws.law_last_sampled_trees.Goals as goal

pub returns-clause-seventeen : goal.returns-clause-seventeen
unfolding convert residue low_bytes
returns-clause-seventeen c = refl

pub returns-clause-eighteen : goal.returns-clause-eighteen
unfolding convert residue low_bytes
returns-clause-eighteen c = refl

pub returns-clause-nineteen : goal.returns-clause-nineteen
unfolding convert residue low_bytes
returns-clause-nineteen c = refl

pub returns-clause-twenty : goal.returns-clause-twenty
unfolding convert residue low_bytes
returns-clause-twenty c = refl

pub returns-clause-twenty_one : goal.returns-clause-twenty_one
unfolding convert residue low_bytes
returns-clause-twenty_one c = refl

pub returns-clause-twenty_two : goal.returns-clause-twenty_two
unfolding convert residue low_bytes
returns-clause-twenty_two c = refl

pub returns-clause-twenty_three : goal.returns-clause-twenty_three
unfolding convert residue low_bytes
returns-clause-twenty_three c = refl
