use Rattle.std.proofs.Common.{refl}
use Rattle.ob_words.specs.Conversion.{convert, residue}
use Rattle.ob_words.specs.Fields.{from_bytes, low_bytes}
use Rattle.ob_lower_trials.proofs.laws.law_control.Goals as goal

pub returns-clause-nothing_done : goal.returns-clause-nothing_done
unfolding convert residue from_bytes low_bytes
returns-clause-nothing_done c = refl

pub returns-clause-nothing_done_boundless : goal.returns-clause-nothing_done_boundless
unfolding convert residue from_bytes low_bytes
returns-clause-nothing_done_boundless c = refl

pub returns-clause-loops : goal.returns-clause-loops
unfolding convert residue from_bytes low_bytes
returns-clause-loops c = refl

pub returns-clause-loops_boundless : goal.returns-clause-loops_boundless
unfolding convert residue from_bytes low_bytes
returns-clause-loops_boundless c = refl

pub returns-clause-choices : goal.returns-clause-choices
unfolding convert residue from_bytes low_bytes
returns-clause-choices c = refl

pub returns-clause-choices_boundless : goal.returns-clause-choices_boundless
unfolding convert residue from_bytes low_bytes
returns-clause-choices_boundless c = refl

pub returns-clause-exiting : goal.returns-clause-exiting
unfolding convert residue from_bytes low_bytes
returns-clause-exiting c = refl

pub returns-clause-exiting_boundless : goal.returns-clause-exiting_boundless
unfolding convert residue from_bytes low_bytes
returns-clause-exiting_boundless c = refl

pub returns-clause-endings : goal.returns-clause-endings
unfolding convert residue from_bytes low_bytes
returns-clause-endings c = refl

pub returns-clause-endings_boundless : goal.returns-clause-endings_boundless
unfolding convert residue from_bytes low_bytes
returns-clause-endings_boundless c = refl

pub returns-clause-factorial : goal.returns-clause-factorial
unfolding convert residue from_bytes low_bytes
returns-clause-factorial c = refl

pub returns-clause-factorial_boundless : goal.returns-clause-factorial_boundless
unfolding convert residue from_bytes low_bytes
returns-clause-factorial_boundless c = refl
