use Rattle.ob_scopes.proofs.Layers.{layered-declare}
use Rattle.ob_scopes.proofs.tags.Tags.declare.Goals as goal

pub invariant_of-self : goal.invariant_of-self
invariant_of-self c =
    layered-declare c.declare.result c.self.inside.table c.declare.new.self c.args.name.now (record { depth = c.depth-depth.result; number = c.args.number })
    c.declare.ensures.ok c.declare.ensures.err c.depth-depth.ensures c.self.invariant
