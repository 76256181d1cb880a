use Rattle.std.proofs.Common.{refl}
use Rattle.ob_words.specs.Conversion.{convert, residue}
use Rattle.ob_words.specs.Fields.{from_bytes, low_bytes}
use Rattle.ob_lower_trials.proofs.laws.law_pointers.Goals as goal

pub returns-clause-equality : goal.returns-clause-equality
unfolding convert residue from_bytes low_bytes
returns-clause-equality c = refl

pub returns-clause-equality_boundless : goal.returns-clause-equality_boundless
unfolding convert residue from_bytes low_bytes
returns-clause-equality_boundless c = refl

pub returns-clause-many_pointers : goal.returns-clause-many_pointers
unfolding convert residue from_bytes low_bytes
returns-clause-many_pointers c = refl

pub returns-clause-many_pointers_boundless : goal.returns-clause-many_pointers_boundless
unfolding convert residue from_bytes low_bytes
returns-clause-many_pointers_boundless c = refl

pub returns-clause-far_away : goal.returns-clause-far_away
unfolding convert residue from_bytes low_bytes
returns-clause-far_away c = refl

pub returns-clause-far_away_boundless : goal.returns-clause-far_away_boundless
unfolding convert residue from_bytes low_bytes
returns-clause-far_away_boundless c = refl

pub returns-clause-first_fit : goal.returns-clause-first_fit
unfolding convert residue from_bytes low_bytes
returns-clause-first_fit c = refl

pub returns-clause-first_fit_boundless : goal.returns-clause-first_fit_boundless
unfolding convert residue from_bytes low_bytes
returns-clause-first_fit_boundless c = refl

pub returns-clause-full_heap : goal.returns-clause-full_heap
unfolding convert residue from_bytes low_bytes
returns-clause-full_heap c = refl

pub returns-clause-full_heap_boundless : goal.returns-clause-full_heap_boundless
unfolding convert residue from_bytes low_bytes
returns-clause-full_heap_boundless c = refl

pub returns-clause-stray_free : goal.returns-clause-stray_free
unfolding convert residue from_bytes low_bytes
returns-clause-stray_free c = refl

pub returns-clause-stray_free_boundless : goal.returns-clause-stray_free_boundless
unfolding convert residue from_bytes low_bytes
returns-clause-stray_free_boundless c = refl
