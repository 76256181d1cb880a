use Rattle.std.proofs.Common.{refl}
use Rattle.ob_words.specs.Conversion.{convert, residue}
use Rattle.ob_words.specs.Fields.{low_bytes}
use Rattle.ob_typed.proofs.laws.law_sampled_trees.Goals as goal

pub returns-clause-one : goal.returns-clause-one
unfolding convert residue low_bytes
returns-clause-one c = refl

pub returns-clause-two : goal.returns-clause-two
unfolding convert residue low_bytes
returns-clause-two c = refl

pub returns-clause-three : goal.returns-clause-three
unfolding convert residue low_bytes
returns-clause-three c = refl

pub returns-clause-four : goal.returns-clause-four
unfolding convert residue low_bytes
returns-clause-four c = refl

pub returns-clause-five : goal.returns-clause-five
unfolding convert residue low_bytes
returns-clause-five c = refl

pub returns-clause-six : goal.returns-clause-six
unfolding convert residue low_bytes
returns-clause-six c = refl

pub returns-clause-seven : goal.returns-clause-seven
unfolding convert residue low_bytes
returns-clause-seven c = refl

pub returns-clause-eight : goal.returns-clause-eight
unfolding convert residue low_bytes
returns-clause-eight c = refl
