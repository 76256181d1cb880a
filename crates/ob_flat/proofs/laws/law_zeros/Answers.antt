use Rattle.ob_flat.proofs.Zeros.{zeros_are_read, zeros_have_no_mark, others_are_kept, other_marks_are_kept}
use Rattle.ob_flat.proofs.laws.law_zeros.Goals as goal

pub returns-clause-read : goal.returns-clause-read
returns-clause-read c = zeros_are_read

pub returns-clause-unmarked : goal.returns-clause-unmarked
returns-clause-unmarked c = zeros_have_no_mark

pub returns-clause-others : goal.returns-clause-others
returns-clause-others c = others_are_kept

pub returns-clause-other_marks : goal.returns-clause-other_marks
returns-clause-other_marks c = other_marks_are_kept
