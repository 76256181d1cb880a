use Rattle.ob_meaning.proofs.OutsideCells.{stored_outside_is_loaded}
use Rattle.ob_meaning.proofs.ReadBack.{loads_inside_take_none, stored_is_loaded}
use Rattle.ob_meaning.proofs.WholeRuns.{runs_keep_outsides, runs_keep_whole}
use Rattle.ob_meaning.proofs.laws.law_loads.Goals as goal

pub returns-clause-stored : goal.returns-clause-stored
returns-clause-stored c = stored_is_loaded

pub returns-clause-inside : goal.returns-clause-inside
returns-clause-inside c = loads_inside_take_none

pub returns-clause-whole : goal.returns-clause-whole
returns-clause-whole c = runs_keep_whole

pub returns-clause-outside : goal.returns-clause-outside
returns-clause-outside c = stored_outside_is_loaded

pub returns-clause-eight : goal.returns-clause-eight
returns-clause-eight c = runs_keep_outsides
