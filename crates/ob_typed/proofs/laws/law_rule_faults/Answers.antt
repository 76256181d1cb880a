use Rattle.std.proofs.Common.{refl}
use Rattle.ob_words.specs.Conversion.{convert, residue}
use Rattle.ob_words.specs.Fields.{from_bytes, low_bytes}
use Rattle.ob_typed.proofs.laws.law_rule_faults.Goals as goal

pub returns-clause-comma_for_static : goal.returns-clause-comma_for_static
unfolding convert residue from_bytes low_bytes
returns-clause-comma_for_static c = refl

pub returns-clause-null_and_number : goal.returns-clause-null_and_number
unfolding convert residue from_bytes low_bytes
returns-clause-null_and_number c = refl

pub returns-clause-structure_as_result : goal.returns-clause-structure_as_result
unfolding convert residue from_bytes low_bytes
returns-clause-structure_as_result c = refl

pub returns-clause-pointers_to_two_structures : goal.returns-clause-pointers_to_two_structures
unfolding convert residue from_bytes low_bytes
returns-clause-pointers_to_two_structures c = refl

pub returns-clause-tag_in_parameters : goal.returns-clause-tag_in_parameters
unfolding convert residue from_bytes low_bytes
returns-clause-tag_in_parameters c = refl

pub returns-clause-tag_in_condition : goal.returns-clause-tag_in_condition
unfolding convert residue from_bytes low_bytes
returns-clause-tag_in_condition c = refl

pub returns-clause-cast_to_array : goal.returns-clause-cast_to_array
unfolding convert residue from_bytes low_bytes
returns-clause-cast_to_array c = refl

pub returns-clause-hidden_function : goal.returns-clause-hidden_function
unfolding convert residue from_bytes low_bytes
returns-clause-hidden_function c = refl
