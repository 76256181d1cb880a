use Rattle.std.proofs.Common.{ap, reverse, ◌∙◌}
use Rattle.ob_scopes.specs.Bindings.{with_binding}
use Rattle.ob_scopes.proofs.Chains.{scopes_more}
use Rattle.ob_scopes.proofs.table.Table.declare.Goals as goal

pub returns-clause-ok : goal.returns-clause-ok
returns-clause-ok g c =
    scopes_more c.self.inside.here (reverse c.self.inside.around.items) _ (reverse c.self.inside.entries.items) (reverse c.add.new.entries.items) c.in_ok-add.ensures.ok
    ∙ ap (with_binding (c.args.name.now, c.args.value)) c.self.view_is
