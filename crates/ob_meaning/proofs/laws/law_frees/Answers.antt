use Rattle.ob_meaning.proofs.Strays.{first_byte_is_freed, freed_again_is_told, freed_loads_take_one, freed_stays_known, freed_stores_vanish, granules_of_freed_leave, known_are_compared, known_are_moved, known_are_subtracted, others_stay_as_they_are}
use Rattle.ob_meaning.proofs.laws.law_frees.Goals as goal

pub returns-clause-first : goal.returns-clause-first
returns-clause-first c = first_byte_is_freed

pub returns-clause-known : goal.returns-clause-known
returns-clause-known c = freed_stays_known

pub returns-clause-granules : goal.returns-clause-granules
returns-clause-granules c = granules_of_freed_leave

pub returns-clause-others : goal.returns-clause-others
returns-clause-others c = others_stay_as_they_are

pub returns-clause-again : goal.returns-clause-again
returns-clause-again c = freed_again_is_told

pub returns-clause-stores : goal.returns-clause-stores
returns-clause-stores c = freed_stores_vanish

pub returns-clause-loads : goal.returns-clause-loads
returns-clause-loads c = freed_loads_take_one

pub returns-clause-moved : goal.returns-clause-moved
returns-clause-moved c = known_are_moved

pub returns-clause-compared : goal.returns-clause-compared
returns-clause-compared c = known_are_compared

pub returns-clause-subtracted : goal.returns-clause-subtracted
returns-clause-subtracted c = known_are_subtracted
