use Rattle.std.proofs.Common.{refl}
use Rattle.ob_words.specs.Conversion.{convert, residue}
use Rattle.ob_words.specs.Fields.{from_bytes, low_bytes}
use Rattle.ob_lower_trials.proofs.laws.law_rules.Goals as goal

pub returns-clause-operators : goal.returns-clause-operators
unfolding convert residue from_bytes low_bytes
returns-clause-operators c = refl

pub returns-clause-operators_boundless : goal.returns-clause-operators_boundless
unfolding convert residue from_bytes low_bytes
returns-clause-operators_boundless c = refl

pub returns-clause-choices : goal.returns-clause-choices
unfolding convert residue from_bytes low_bytes
returns-clause-choices c = refl

pub returns-clause-choices_boundless : goal.returns-clause-choices_boundless
unfolding convert residue from_bytes low_bytes
returns-clause-choices_boundless c = refl

pub returns-clause-subscripts : goal.returns-clause-subscripts
unfolding convert residue from_bytes low_bytes
returns-clause-subscripts c = refl

pub returns-clause-subscripts_boundless : goal.returns-clause-subscripts_boundless
unfolding convert residue from_bytes low_bytes
returns-clause-subscripts_boundless c = refl

pub returns-clause-copied_first : goal.returns-clause-copied_first
unfolding convert residue from_bytes low_bytes
returns-clause-copied_first c = refl

pub returns-clause-copied_first_boundless : goal.returns-clause-copied_first_boundless
unfolding convert residue from_bytes low_bytes
returns-clause-copied_first_boundless c = refl

pub returns-clause-exact_string : goal.returns-clause-exact_string
unfolding convert residue from_bytes low_bytes
returns-clause-exact_string c = refl

pub returns-clause-exact_string_boundless : goal.returns-clause-exact_string_boundless
unfolding convert residue from_bytes low_bytes
returns-clause-exact_string_boundless c = refl

pub returns-clause-relations : goal.returns-clause-relations
unfolding convert residue from_bytes low_bytes
returns-clause-relations c = refl

pub returns-clause-relations_boundless : goal.returns-clause-relations_boundless
unfolding convert residue from_bytes low_bytes
returns-clause-relations_boundless c = refl

pub returns-clause-two_objects : goal.returns-clause-two_objects
unfolding convert residue from_bytes low_bytes
returns-clause-two_objects c = refl

pub returns-clause-two_objects_boundless : goal.returns-clause-two_objects_boundless
unfolding convert residue from_bytes low_bytes
returns-clause-two_objects_boundless c = refl

pub returns-clause-product : goal.returns-clause-product
unfolding convert residue from_bytes low_bytes
returns-clause-product c = refl

pub returns-clause-product_boundless : goal.returns-clause-product_boundless
unfolding convert residue from_bytes low_bytes
returns-clause-product_boundless c = refl

pub returns-clause-inner_free : goal.returns-clause-inner_free
unfolding convert residue from_bytes low_bytes
returns-clause-inner_free c = refl

pub returns-clause-inner_free_boundless : goal.returns-clause-inner_free_boundless
unfolding convert residue from_bytes low_bytes
returns-clause-inner_free_boundless c = refl
