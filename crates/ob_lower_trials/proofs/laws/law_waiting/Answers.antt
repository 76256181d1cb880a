use Rattle.std.proofs.Common.{refl}
use Rattle.ob_words.specs.Conversion.{convert, residue}
use Rattle.ob_words.specs.Fields.{from_bytes, low_bytes}
use Rattle.ob_lower_trials.proofs.laws.law_waiting.Goals as goal

pub returns-clause-changed_base : goal.returns-clause-changed_base
unfolding convert residue from_bytes low_bytes
returns-clause-changed_base c = refl

pub returns-clause-changed_number : goal.returns-clause-changed_number
unfolding convert residue from_bytes low_bytes
returns-clause-changed_number c = refl

pub returns-clause-memory_steps : goal.returns-clause-memory_steps
unfolding convert residue from_bytes low_bytes
returns-clause-memory_steps c = refl

pub returns-clause-narrow_memory : goal.returns-clause-narrow_memory
unfolding convert residue from_bytes low_bytes
returns-clause-narrow_memory c = refl

pub returns-clause-pointers_in_tests : goal.returns-clause-pointers_in_tests
unfolding convert residue from_bytes low_bytes
returns-clause-pointers_in_tests c = refl

pub returns-clause-copied_elements : goal.returns-clause-copied_elements
unfolding convert residue from_bytes low_bytes
returns-clause-copied_elements c = refl

pub returns-clause-far_member : goal.returns-clause-far_member
unfolding convert residue from_bytes low_bytes
returns-clause-far_member c = refl

pub returns-clause-static_steps : goal.returns-clause-static_steps
unfolding convert residue from_bytes low_bytes
returns-clause-static_steps c = refl

pub returns-clause-widths : goal.returns-clause-widths
unfolding convert residue from_bytes low_bytes
returns-clause-widths c = refl
