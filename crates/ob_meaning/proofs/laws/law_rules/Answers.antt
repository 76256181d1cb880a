use Rattle.std.proofs.Common.{refl}
use Rattle.ob_words.specs.Conversion.{convert, residue}
use Rattle.ob_words.specs.Fields.{from_bytes, low_bytes}
use Rattle.ob_meaning.proofs.laws.law_rules.Goals as goal

pub returns-clause-operators : goal.returns-clause-operators
unfolding convert residue from_bytes low_bytes
returns-clause-operators c = refl

pub returns-clause-choices : goal.returns-clause-choices
unfolding convert residue from_bytes low_bytes
returns-clause-choices c = refl

pub returns-clause-subscripts : goal.returns-clause-subscripts
unfolding convert residue from_bytes low_bytes
returns-clause-subscripts c = refl

pub returns-clause-copy : goal.returns-clause-copy
unfolding convert residue from_bytes low_bytes
returns-clause-copy c = refl

pub returns-clause-string : goal.returns-clause-string
unfolding convert residue from_bytes low_bytes
returns-clause-string c = refl

pub returns-clause-relations : goal.returns-clause-relations
unfolding convert residue from_bytes low_bytes
returns-clause-relations c = refl

pub returns-clause-two_objects : goal.returns-clause-two_objects
unfolding convert residue from_bytes low_bytes
returns-clause-two_objects c = refl

pub returns-clause-product : goal.returns-clause-product
unfolding convert residue from_bytes low_bytes
returns-clause-product c = refl

pub returns-clause-inner_free : goal.returns-clause-inner_free
unfolding convert residue from_bytes low_bytes
returns-clause-inner_free c = refl

pub returns-clause-stack : goal.returns-clause-stack
unfolding convert residue from_bytes low_bytes
returns-clause-stack c = (refl, refl)
