use Rattle.std.proofs.Common.{ap, ◌∙◌}
use Rattle.ob_scopes.specs.Bindings.{left}
use Rattle.ob_scopes.specs.Tags.{tags_of}
use Rattle.ob_scopes.proofs.Layers.{layered-leave, tags-left}
use Rattle.ob_scopes.proofs.tags.Tags.leave.Goals as goal

pub invariant_of-self : goal.invariant_of-self
invariant_of-self c = layered-leave c.self.inside.table c.leave.new.self c.leave.ensures c.self.invariant

pub returns : goal.returns
returns c = ap tags_of c.leave.ensures ∙ tags-left c.self.inside.table.bindings c.self.inside.table.outer ∙ ap left c.self.view_is
