use Rattle.ob_first.proofs.FirstImages.{few_of_text, runs_of_text}
use Rattle.ob_first.proofs.laws.law_first_runs.Goals as goal

pub returns-clause-runs : goal.returns-clause-runs
returns-clause-runs c = runs_of_text c.law_fields.ensures.read c.law_fields.ensures.others c.law_zeros.ensures.others c.law_layout.ensures

pub returns-clause-few : goal.returns-clause-few
returns-clause-few c = few_of_text
