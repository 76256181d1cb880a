use Rattle.std.proofs.Common.{refl}
use Rattle.ob_words.specs.Conversion.{convert, residue}
use Rattle.ob_words.specs.Fields.{from_bytes, low_bytes}
use Rattle.ob_lower_trials.proofs.laws.law_directed.Goals as goal

pub returns-clause-step_into_itself : goal.returns-clause-step_into_itself
unfolding convert residue from_bytes low_bytes
returns-clause-step_into_itself c = refl

pub returns-clause-sum_into_operand : goal.returns-clause-sum_into_operand
unfolding convert residue from_bytes low_bytes
returns-clause-sum_into_operand c = refl

pub returns-clause-changed_operand : goal.returns-clause-changed_operand
unfolding convert residue from_bytes low_bytes
returns-clause-changed_operand c = refl

pub returns-clause-changed_variable : goal.returns-clause-changed_variable
unfolding convert residue from_bytes low_bytes
returns-clause-changed_variable c = refl

pub returns-clause-changed_index : goal.returns-clause-changed_index
unfolding convert residue from_bytes low_bytes
returns-clause-changed_index c = refl

pub returns-clause-narrow : goal.returns-clause-narrow
unfolding convert residue from_bytes low_bytes
returns-clause-narrow c = refl

pub returns-clause-widened : goal.returns-clause-widened
unfolding convert residue from_bytes low_bytes
returns-clause-widened c = refl

pub returns-clause-truths : goal.returns-clause-truths
unfolding convert residue from_bytes low_bytes
returns-clause-truths c = refl

pub returns-clause-breaks : goal.returns-clause-breaks
unfolding convert residue from_bytes low_bytes
returns-clause-breaks c = refl

pub returns-clause-counted_down : goal.returns-clause-counted_down
unfolding convert residue from_bytes low_bytes
returns-clause-counted_down c = refl

pub returns-clause-exposed_parameter : goal.returns-clause-exposed_parameter
unfolding convert residue from_bytes low_bytes
returns-clause-exposed_parameter c = refl

pub returns-clause-unnamed : goal.returns-clause-unnamed
unfolding convert residue from_bytes low_bytes
returns-clause-unnamed c = refl

pub returns-clause-other_type : goal.returns-clause-other_type
unfolding convert residue from_bytes low_bytes
returns-clause-other_type c = refl

pub returns-clause-numbers_first : goal.returns-clause-numbers_first
unfolding convert residue from_bytes low_bytes
returns-clause-numbers_first c = refl
