use Rattle.ob_scopes.proofs.Layers.{layered-enter}
use Rattle.ob_scopes.proofs.tags.Tags.enter.Goals as goal

pub invariant_of-self : goal.invariant_of-self
invariant_of-self c = layered-enter c.enter.result c.self.inside.table c.enter.new.self c.enter.ensures.ok c.enter.ensures.err c.self.invariant
