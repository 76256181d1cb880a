use Rattle.std.proofs.Common.{◌≡◌, ap, arith, length, reverse, sym, ◌∙◌}
use Rattle.std.proofs.lemmas.List.{length-reverse}
use Rattle.ob_scopes.proofs.Chains.{length-outers}
use Rattle.ob_scopes.proofs.table.Table.depth.Goals as goal

pub returns : goal.returns
returns g c =
    let l : length c.args.self.now.outer ≡ length c.self.inside.around.items =
    ap (λ s. length s.outer) (sym c.self.view_is) ∙ length-outers c.self.inside.here (reverse c.self.inside.around.items) (reverse c.self.inside.entries.items) ∙ length-reverse c.self.inside.around.items in
    omega (arith, l)
