use Rattle.ob_space.proofs.Laying.{kept_cleared, view_cleared}
use Rattle.ob_space.proofs.space.Space.clear.Goals as goal

pub invariant_of-self : goal.invariant_of-self
invariant_of-self c =
    kept_cleared c.self.inside.frames c.clear.new.self c.self.inside.living c.clear-2.new.self c.add_statics.new.living c.self.inside.settings c.law_framed.ensures c.clear.ensures.memory c.clear-2.ensures c.self.invariant c.add_statics.ensures

pub returns-clause-memory : goal.returns-clause-memory
returns-clause-memory c =
    rw (← c.self.view_is)
    (view_cleared c.law_laid_out.ensures c.self.inside.frames c.clear.new.self c.self.inside.living c.clear-2.new.self c.add_statics.new.living c.self.inside.settings c.clear.ensures.memory c.clear-2.ensures c.self.invariant c.add_statics.ensures)
