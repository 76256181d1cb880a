use Rattle.std.proofs.Common.{refl}
use Rattle.ob_words.specs.Conversion.{convert, residue}
use Rattle.ob_lower.proofs.laws.law_code.Goals as goal

pub returns-clause-while_loop : goal.returns-clause-while_loop
unfolding convert residue
returns-clause-while_loop c = refl

pub returns-clause-hello : goal.returns-clause-hello
unfolding convert residue
returns-clause-hello c = refl

pub returns-clause-call : goal.returns-clause-call
unfolding convert residue
returns-clause-call c = refl

pub returns-clause-and : goal.returns-clause-and
unfolding convert residue
returns-clause-and c = refl

pub returns-clause-element : goal.returns-clause-element
unfolding convert residue
returns-clause-element c = refl

pub returns-clause-for_loop : goal.returns-clause-for_loop
unfolding convert residue
returns-clause-for_loop c = refl

pub returns-clause-array : goal.returns-clause-array
unfolding convert residue
returns-clause-array c = refl

pub returns-clause-copy : goal.returns-clause-copy
unfolding convert residue
returns-clause-copy c = refl

pub returns-clause-sum : goal.returns-clause-sum
unfolding convert residue
returns-clause-sum c = refl

pub returns-clause-constant_element : goal.returns-clause-constant_element
unfolding convert residue
returns-clause-constant_element c = refl

pub returns-clause-numbers_first : goal.returns-clause-numbers_first
unfolding convert residue
returns-clause-numbers_first c = refl

pub returns-clause-countdown : goal.returns-clause-countdown
unfolding convert residue
returns-clause-countdown c = refl

pub returns-clause-cast_copy : goal.returns-clause-cast_copy
unfolding convert residue
returns-clause-cast_copy c = refl
