use Rattle.std.proofs.Common.{refl}
use Rattle.ob_words.specs.Conversion.{convert, residue}
use Rattle.ob_words.specs.Fields.{from_bytes, low_bytes}
use Rattle.ob_lower_trials.proofs.laws.law_stopped.Goals as goal

pub returns-clause-calls_0 : goal.returns-clause-calls_0
unfolding convert residue from_bytes low_bytes
returns-clause-calls_0 c = refl

pub returns-clause-calls_1 : goal.returns-clause-calls_1
unfolding convert residue from_bytes low_bytes
returns-clause-calls_1 c = refl

pub returns-clause-calls_2 : goal.returns-clause-calls_2
unfolding convert residue from_bytes low_bytes
returns-clause-calls_2 c = refl

pub returns-clause-calls_3 : goal.returns-clause-calls_3
unfolding convert residue from_bytes low_bytes
returns-clause-calls_3 c = refl

pub returns-clause-calls_4 : goal.returns-clause-calls_4
unfolding convert residue from_bytes low_bytes
returns-clause-calls_4 c = refl

pub returns-clause-calls_5 : goal.returns-clause-calls_5
unfolding convert residue from_bytes low_bytes
returns-clause-calls_5 c = refl

pub returns-clause-calls_6 : goal.returns-clause-calls_6
unfolding convert residue from_bytes low_bytes
returns-clause-calls_6 c = refl

pub returns-clause-calls_7 : goal.returns-clause-calls_7
unfolding convert residue from_bytes low_bytes
returns-clause-calls_7 c = refl

pub returns-clause-loops_3 : goal.returns-clause-loops_3
unfolding convert residue from_bytes low_bytes
returns-clause-loops_3 c = refl

pub returns-clause-loops_6 : goal.returns-clause-loops_6
unfolding convert residue from_bytes low_bytes
returns-clause-loops_6 c = refl

pub returns-clause-loops_9 : goal.returns-clause-loops_9
unfolding convert residue from_bytes low_bytes
returns-clause-loops_9 c = refl

pub returns-clause-loops_12 : goal.returns-clause-loops_12
unfolding convert residue from_bytes low_bytes
returns-clause-loops_12 c = refl

pub returns-clause-loops_15 : goal.returns-clause-loops_15
unfolding convert residue from_bytes low_bytes
returns-clause-loops_15 c = refl

pub returns-clause-loops_18 : goal.returns-clause-loops_18
unfolding convert residue from_bytes low_bytes
returns-clause-loops_18 c = refl

pub returns-clause-loops_21 : goal.returns-clause-loops_21
unfolding convert residue from_bytes low_bytes
returns-clause-loops_21 c = refl

pub returns-clause-loops_24 : goal.returns-clause-loops_24
unfolding convert residue from_bytes low_bytes
returns-clause-loops_24 c = refl

pub returns-clause-counted_2 : goal.returns-clause-counted_2
unfolding convert residue from_bytes low_bytes
returns-clause-counted_2 c = refl

pub returns-clause-counted_4 : goal.returns-clause-counted_4
unfolding convert residue from_bytes low_bytes
returns-clause-counted_4 c = refl

pub returns-clause-counted_5 : goal.returns-clause-counted_5
unfolding convert residue from_bytes low_bytes
returns-clause-counted_5 c = refl

pub returns-clause-counted_7 : goal.returns-clause-counted_7
unfolding convert residue from_bytes low_bytes
returns-clause-counted_7 c = refl

pub returns-clause-counted_9 : goal.returns-clause-counted_9
unfolding convert residue from_bytes low_bytes
returns-clause-counted_9 c = refl

pub returns-clause-counted_11 : goal.returns-clause-counted_11
unfolding convert residue from_bytes low_bytes
returns-clause-counted_11 c = refl

pub returns-clause-counted_12 : goal.returns-clause-counted_12
unfolding convert residue from_bytes low_bytes
returns-clause-counted_12 c = refl
