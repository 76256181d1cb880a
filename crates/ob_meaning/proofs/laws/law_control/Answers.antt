use Rattle.std.proofs.Common.{refl}
use Rattle.ob_words.specs.Conversion.{convert, residue}
use Rattle.ob_words.specs.Fields.{from_bytes, low_bytes}
use Rattle.ob_meaning.proofs.laws.law_control.Goals as goal

pub returns-clause-least : goal.returns-clause-least
unfolding convert residue from_bytes low_bytes
returns-clause-least c = refl

pub returns-clause-loops : goal.returns-clause-loops
unfolding convert residue from_bytes low_bytes
returns-clause-loops c = (refl, refl)

pub returns-clause-choices : goal.returns-clause-choices
unfolding convert residue from_bytes low_bytes
returns-clause-choices c = refl

pub returns-clause-calls : goal.returns-clause-calls
unfolding convert residue from_bytes low_bytes
returns-clause-calls c = refl

pub returns-clause-dangling : goal.returns-clause-dangling
unfolding convert residue from_bytes low_bytes
returns-clause-dangling c = refl

pub returns-clause-exit : goal.returns-clause-exit
unfolding convert residue from_bytes low_bytes
returns-clause-exit c = refl

pub returns-clause-ends : goal.returns-clause-ends
unfolding convert residue from_bytes low_bytes
returns-clause-ends c = refl
