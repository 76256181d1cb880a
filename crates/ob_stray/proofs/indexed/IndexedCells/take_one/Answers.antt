use Rattle.std.proofs.Common.{◌∙◌, sym}
use Rattle.ob_stray.proofs.Indexing.{index-less, others-removed, removed-shorter, none-own}
use Rattle.ob_stray.proofs.indexed.IndexedCells.take_one.Goals as goal

pub returns-in_default-clause-none : goal.returns-in_default-clause-none
returns-in_default-clause-none c = λ _. rw (← c.self.view_is)
    (none-own c.self.inside.index c.args.object c.self.inside.cells.entries c.self.invariant c.in_default.ensures.none)

pub invariant_of-self : goal.invariant_of-self
invariant_of-self c = rw c.pop.ensures.entries
    (index-less c.self.inside.index c.remove.new.self c.in-Some.key c.self.inside.cells.entries c.remove.ensures.updates.0 c.len.ensures.valid.0 c.self.invariant)

pub returns-clause-same : goal.returns-clause-same
returns-clause-same c = rw (← c.self.view_is, c.pop.ensures.entries, ← c.in-Some.ensures.own)
    (others-removed c.in-Some.key c.self.inside.cells.entries)

pub returns-clause-less : goal.returns-clause-less
returns-clause-less c = λ _. rw (← c.self.view_is, c.pop.ensures.entries)
    (removed-shorter c.in-Some.key c.self.inside.cells.entries (sym (c.self.invariant.0 c.in-Some.key) ∙ c.in-Some.ensures.found))
