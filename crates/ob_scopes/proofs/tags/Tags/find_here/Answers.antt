use Rattle.std.proofs.Common.{ap, length, sym, ◌∙◌}
use Rattle.ob_typed.specs.Scopes.{find_tag}
use Rattle.ob_scopes.specs.Tags.{here}
use Rattle.ob_scopes.proofs.Layers.{tag-here}
use Rattle.ob_scopes.proofs.tags.Tags.find_here.Goals as goal

pub returns : goal.returns
returns c =
    c.here.ensures c.args.name.now ∙ ap (here c.depth.result) c.find.ensures.found
    ∙ ap (λ n. here n (find_tag c.args.name.now c.args.self.now.bindings)) c.depth.ensures
    ∙ sym (tag-here c.args.name.now (length c.args.self.now.outer) c.args.self.now.bindings c.find.ensures.within)
