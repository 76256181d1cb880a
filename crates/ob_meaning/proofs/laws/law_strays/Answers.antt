use Rattle.ob_meaning.proofs.Strays.{set_bytes_take_none, stray_loads_take_one, stray_stores_vanish, unset_byte_takes_one}
use Rattle.ob_meaning.proofs.laws.law_strays.Goals as goal

pub returns-clause-stores : goal.returns-clause-stores
returns-clause-stores c = stray_stores_vanish

pub returns-clause-loads : goal.returns-clause-loads
returns-clause-loads c = stray_loads_take_one

pub returns-clause-unset : goal.returns-clause-unset
returns-clause-unset c = unset_byte_takes_one

pub returns-clause-set : goal.returns-clause-set
returns-clause-set c = set_bytes_take_none
