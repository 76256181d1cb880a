use Rattle.std.proofs.Common.{refl}
use Rattle.ob_words.specs.Conversion.{convert, residue}
use Rattle.ob_words.specs.Fields.{from_bytes, low_bytes}
use Rattle.ob_code.proofs.laws.law_control_runs.Goals as goal

pub returns-clause-hello : goal.returns-clause-hello
unfolding convert residue from_bytes low_bytes
returns-clause-hello c = (refl, refl)

pub returns-clause-return_place : goal.returns-clause-return_place
unfolding convert residue from_bytes low_bytes
returns-clause-return_place c = (refl, refl)

pub returns-clause-endless : goal.returns-clause-endless
unfolding convert residue from_bytes low_bytes
returns-clause-endless c = (refl, refl)

pub returns-clause-ticks : goal.returns-clause-ticks
unfolding convert residue from_bytes low_bytes
returns-clause-ticks c = (refl, refl)

pub returns-clause-jumps : goal.returns-clause-jumps
unfolding convert residue from_bytes low_bytes
returns-clause-jumps c = (refl, refl)

pub returns-clause-arguments : goal.returns-clause-arguments
unfolding convert residue from_bytes low_bytes
returns-clause-arguments c = (refl, refl)

pub returns-clause-links : goal.returns-clause-links
unfolding convert residue from_bytes low_bytes
returns-clause-links c = (refl, refl)

pub returns-clause-stack : goal.returns-clause-stack
unfolding convert residue from_bytes low_bytes
returns-clause-stack c = (refl, refl)
