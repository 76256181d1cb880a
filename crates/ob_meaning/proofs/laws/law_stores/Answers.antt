use Rattle.ob_meaning.proofs.Stores.{all_else_stays, other_granules_stay, other_outsides_stay, others_stay_undropped, sizes_and_lives_stay}
use Rattle.ob_meaning.proofs.laws.law_stores.Goals as goal

pub returns-clause-granules : goal.returns-clause-granules
returns-clause-granules c = other_granules_stay

pub returns-clause-outsides : goal.returns-clause-outsides
returns-clause-outsides c = other_outsides_stay

pub returns-clause-lives : goal.returns-clause-lives
returns-clause-lives c = sizes_and_lives_stay

pub returns-clause-rest : goal.returns-clause-rest
returns-clause-rest c = all_else_stays

pub returns-clause-undropped : goal.returns-clause-undropped
returns-clause-undropped c = others_stay_undropped
