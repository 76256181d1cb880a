use Rattle.ob_model.specs.Limits.{stack_bytes}
use Rattle.ob_code.specs.Start.{laid_out}
use Rattle.ob_code.proofs.Counts.{may_end}
use Rattle.ob_code.proofs.laws.law_endings.Goals as goal

pub returns : goal.returns
returns c =
    λ image settings cycle place input input_end steps.
    may_end (record { image = image; settings = settings; cycle = cycle; input_end = input_end }) (laid_out stack_bytes image.statics image.pointers settings) place input steps
