use Rattle.ob_model.proofs.HeapLists.{blocks_inserted, one_leaves}
use Rattle.ob_model.proofs.laws.law_heap_blocks.Goals as goal

pub returns-clause-inserted : goal.returns-clause-inserted
returns-clause-inserted c = blocks_inserted

pub returns-clause-leaves : goal.returns-clause-leaves
returns-clause-leaves c = one_leaves
