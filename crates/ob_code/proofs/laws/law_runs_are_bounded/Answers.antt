use Rattle.ob_model.specs.Limits.{stack_bytes}
use Rattle.ob_code.specs.Start.{laid_out}
use Rattle.ob_code.proofs.Counts.{bounded, spent_is_exact}
use Rattle.ob_code.proofs.laws.law_runs_are_bounded.Goals as goal

pub returns-clause-most : goal.returns-clause-most
returns-clause-most c =
    λ image settings cycle place input input_end steps.
    bounded (record { image = image; settings = settings; cycle = cycle; input_end = input_end }) (laid_out stack_bytes image.statics image.pointers settings) place input steps

pub returns-clause-spent : goal.returns-clause-spent
returns-clause-spent c =
    λ image settings cycle place input input_end steps.
    spent_is_exact (record { image = image; settings = settings; cycle = cycle; input_end = input_end }) (laid_out stack_bytes image.statics image.pointers settings) place input steps
