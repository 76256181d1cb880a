use Rattle.ob_stray.proofs.Indexing.{index-promoted}
use Rattle.ob_stray.proofs.indexed.IndexedCells.bring.Goals as goal

pub invariant_of-self : goal.invariant_of-self
invariant_of-self c = rw c.get.follows.holds-at-none (index-promoted c.self.inside.index c.args.key c.self.inside.cells.entries c.len.ensures.valid.0 c.self.invariant)
