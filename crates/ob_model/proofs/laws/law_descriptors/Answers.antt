use Rattle.ob_model.proofs.SlotWords.{words_name, others_name_nothing}
use Rattle.ob_model.proofs.laws.law_descriptors.Goals as goal

pub returns-clause-slots : goal.returns-clause-slots
returns-clause-slots c = words_name

pub returns-clause-others : goal.returns-clause-others
returns-clause-others c = others_name_nothing
