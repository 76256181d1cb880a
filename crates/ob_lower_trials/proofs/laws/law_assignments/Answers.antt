use Rattle.std.proofs.Common.{refl}
use Rattle.ob_words.specs.Conversion.{convert, residue}
use Rattle.ob_words.specs.Fields.{from_bytes, low_bytes}
use Rattle.ob_lower_trials.proofs.laws.law_assignments.Goals as goal

pub returns-clause-static_pointer : goal.returns-clause-static_pointer
unfolding convert residue from_bytes low_bytes
returns-clause-static_pointer c = refl

pub returns-clause-static_pointer_boundless : goal.returns-clause-static_pointer_boundless
unfolding convert residue from_bytes low_bytes
returns-clause-static_pointer_boundless c = refl

pub returns-clause-arrays : goal.returns-clause-arrays
unfolding convert residue from_bytes low_bytes
returns-clause-arrays c = refl

pub returns-clause-arrays_boundless : goal.returns-clause-arrays_boundless
unfolding convert residue from_bytes low_bytes
returns-clause-arrays_boundless c = refl

pub returns-clause-final_zero : goal.returns-clause-final_zero
unfolding convert residue from_bytes low_bytes
returns-clause-final_zero c = refl

pub returns-clause-final_zero_boundless : goal.returns-clause-final_zero_boundless
unfolding convert residue from_bytes low_bytes
returns-clause-final_zero_boundless c = refl

pub returns-clause-stepped : goal.returns-clause-stepped
unfolding convert residue from_bytes low_bytes
returns-clause-stepped c = refl

pub returns-clause-stepped_boundless : goal.returns-clause-stepped_boundless
unfolding convert residue from_bytes low_bytes
returns-clause-stepped_boundless c = refl

pub returns-clause-walking : goal.returns-clause-walking
unfolding convert residue from_bytes low_bytes
returns-clause-walking c = refl

pub returns-clause-walking_boundless : goal.returns-clause-walking_boundless
unfolding convert residue from_bytes low_bytes
returns-clause-walking_boundless c = refl

pub returns-clause-copied : goal.returns-clause-copied
unfolding convert residue from_bytes low_bytes
returns-clause-copied c = refl

pub returns-clause-copied_boundless : goal.returns-clause-copied_boundless
unfolding convert residue from_bytes low_bytes
returns-clause-copied_boundless c = refl

pub returns-clause-half_copied : goal.returns-clause-half_copied
unfolding convert residue from_bytes low_bytes
returns-clause-half_copied c = refl

pub returns-clause-half_copied_boundless : goal.returns-clause-half_copied_boundless
unfolding convert residue from_bytes low_bytes
returns-clause-half_copied_boundless c = refl
