use Rattle.std.proofs.Common.{refl}
use Rattle.ob_library.specs.declared.library.LibraryFunction.TheVariants as f
use Rattle.ob_library.specs.Library.{tree_of}
use Rattle.ob_prelude.proofs.Closed.{needed, defined}
use Rattle.ob_prelude.proofs.Completed.{completed_valid}
use Rattle.ob_prelude.proofs.laws.law_completion.Goals as goal

pub returns-clause-needed : goal.returns-clause-needed
returns-clause-needed c p g = needed p g

pub returns-clause-named : goal.returns-clause-named
unfolding tree_of
returns-clause-named c f.Strlen = refl
returns-clause-named c _ = refl

pub returns-clause-defined : goal.returns-clause-defined
returns-clause-defined c p g h = defined p g h

pub returns-clause-valid : goal.returns-clause-valid
returns-clause-valid c p h = completed_valid c.law_library.ensures.valid p h
