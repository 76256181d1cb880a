use Rattle.ob_model.proofs.Recency.{load_moves, other_load, store_moves, full_drops}
use Rattle.ob_model.proofs.laws.law_recency.Goals as goal

pub returns-clause-load : goal.returns-clause-load
returns-clause-load c = load_moves

pub returns-clause-other_load : goal.returns-clause-other_load
returns-clause-other_load c = other_load

pub returns-clause-store : goal.returns-clause-store
returns-clause-store c = store_moves

pub returns-clause-full : goal.returns-clause-full
returns-clause-full c = full_drops
