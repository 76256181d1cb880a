use Rattle.std.proofs.Common.{refl}
use Rattle.ob_words.specs.Conversion.{convert, residue}
use Rattle.ob_words.specs.Fields.{from_bytes, low_bytes}
use Rattle.ob_lower_trials.proofs.laws.law_outside.Goals as goal

pub returns-clause-dropping : goal.returns-clause-dropping
unfolding convert residue from_bytes low_bytes
returns-clause-dropping c = refl

pub returns-clause-dropping_boundless : goal.returns-clause-dropping_boundless
unfolding convert residue from_bytes low_bytes
returns-clause-dropping_boundless c = refl

pub returns-clause-recent_use : goal.returns-clause-recent_use
unfolding convert residue from_bytes low_bytes
returns-clause-recent_use c = refl

pub returns-clause-recent_use_boundless : goal.returns-clause-recent_use_boundless
unfolding convert residue from_bytes low_bytes
returns-clause-recent_use_boundless c = refl

pub returns-clause-negative : goal.returns-clause-negative
unfolding convert residue from_bytes low_bytes
returns-clause-negative c = refl

pub returns-clause-negative_boundless : goal.returns-clause-negative_boundless
unfolding convert residue from_bytes low_bytes
returns-clause-negative_boundless c = refl

pub returns-clause-partly_set : goal.returns-clause-partly_set
unfolding convert residue from_bytes low_bytes
returns-clause-partly_set c = refl

pub returns-clause-partly_set_boundless : goal.returns-clause-partly_set_boundless
unfolding convert residue from_bytes low_bytes
returns-clause-partly_set_boundless c = refl

pub returns-clause-pointer_outside : goal.returns-clause-pointer_outside
unfolding convert residue from_bytes low_bytes
returns-clause-pointer_outside c = refl

pub returns-clause-pointer_outside_boundless : goal.returns-clause-pointer_outside_boundless
unfolding convert residue from_bytes low_bytes
returns-clause-pointer_outside_boundless c = refl
