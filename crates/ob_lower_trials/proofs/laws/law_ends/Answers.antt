use Rattle.std.proofs.Common.{refl}
use Rattle.ob_words.specs.Conversion.{convert, residue}
use Rattle.ob_words.specs.Fields.{from_bytes, low_bytes}
use Rattle.ob_lower_trials.proofs.laws.law_ends.Goals as goal

pub returns-clause-division : goal.returns-clause-division
unfolding convert residue from_bytes low_bytes
returns-clause-division c = refl

pub returns-clause-division_boundless : goal.returns-clause-division_boundless
unfolding convert residue from_bytes low_bytes
returns-clause-division_boundless c = refl

pub returns-clause-endless : goal.returns-clause-endless
unfolding convert residue from_bytes low_bytes
returns-clause-endless c = refl

pub returns-clause-endless_boundless : goal.returns-clause-endless_boundless
unfolding convert residue from_bytes low_bytes
returns-clause-endless_boundless c = refl

pub returns-clause-echo : goal.returns-clause-echo
unfolding convert residue from_bytes low_bytes
returns-clause-echo c = refl

pub returns-clause-echo_boundless : goal.returns-clause-echo_boundless
unfolding convert residue from_bytes low_bytes
returns-clause-echo_boundless c = refl
