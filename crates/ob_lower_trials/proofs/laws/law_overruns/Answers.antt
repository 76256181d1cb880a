use Rattle.std.proofs.Common.{refl}
use Rattle.ob_words.specs.Conversion.{convert, residue}
use Rattle.ob_words.specs.Fields.{from_bytes, low_bytes}
use Rattle.ob_lower_trials.proofs.laws.law_overruns.Goals as goal

pub returns-clause-overrun_read : goal.returns-clause-overrun_read
unfolding convert residue from_bytes low_bytes
returns-clause-overrun_read c = refl

pub returns-clause-overrun_read_boundless : goal.returns-clause-overrun_read_boundless
unfolding convert residue from_bytes low_bytes
returns-clause-overrun_read_boundless c = refl

pub returns-clause-stray_store : goal.returns-clause-stray_store
unfolding convert residue from_bytes low_bytes
returns-clause-stray_store c = refl

pub returns-clause-stray_store_boundless : goal.returns-clause-stray_store_boundless
unfolding convert residue from_bytes low_bytes
returns-clause-stray_store_boundless c = refl

pub returns-clause-neighbours : goal.returns-clause-neighbours
unfolding convert residue from_bytes low_bytes
returns-clause-neighbours c = refl

pub returns-clause-neighbours_boundless : goal.returns-clause-neighbours_boundless
unfolding convert residue from_bytes low_bytes
returns-clause-neighbours_boundless c = refl

pub returns-clause-there_and_back : goal.returns-clause-there_and_back
unfolding convert residue from_bytes low_bytes
returns-clause-there_and_back c = refl

pub returns-clause-there_and_back_boundless : goal.returns-clause-there_and_back_boundless
unfolding convert residue from_bytes low_bytes
returns-clause-there_and_back_boundless c = refl

pub returns-clause-lost_pointer : goal.returns-clause-lost_pointer
unfolding convert residue from_bytes low_bytes
returns-clause-lost_pointer c = refl

pub returns-clause-lost_pointer_boundless : goal.returns-clause-lost_pointer_boundless
unfolding convert residue from_bytes low_bytes
returns-clause-lost_pointer_boundless c = refl

pub returns-clause-last_granule : goal.returns-clause-last_granule
unfolding convert residue from_bytes low_bytes
returns-clause-last_granule c = refl

pub returns-clause-last_granule_boundless : goal.returns-clause-last_granule_boundless
unfolding convert residue from_bytes low_bytes
returns-clause-last_granule_boundless c = refl

pub returns-clause-through_null : goal.returns-clause-through_null
unfolding convert residue from_bytes low_bytes
returns-clause-through_null c = refl

pub returns-clause-through_null_boundless : goal.returns-clause-through_null_boundless
unfolding convert residue from_bytes low_bytes
returns-clause-through_null_boundless c = refl

pub returns-clause-ill_aligned : goal.returns-clause-ill_aligned
unfolding convert residue from_bytes low_bytes
returns-clause-ill_aligned c = refl

pub returns-clause-ill_aligned_boundless : goal.returns-clause-ill_aligned_boundless
unfolding convert residue from_bytes low_bytes
returns-clause-ill_aligned_boundless c = refl
