use Rattle.std.proofs.Common.{◌≡◌, false, refl, ap, is_ok}
use Rattle.ob_tree.specs.Types.{unknown_struct}
use Rattle.ob_tree.specs.TypeView.{plain_members}
use Rattle.ob_tree.proofs.KeptRows.{pushed}
use Rattle.ob_tree.proofs.structs.Structs.declare.Goals as goal

pub invariant_of-self : goal.invariant_of-self
invariant_of-self c =
    let row : record { complete = false; members = plain_members c.new.result.items } ≡ unknown_struct = ap (λ is. record { complete = false; members = plain_members is }) c.new.ensures.items in
    let kept = pushed (is_ok c.push.result) c.args.self.now.rows.items c.push.new.self.items _ c.push.ensures.items row refl (record { right = c.args.self.now.right; known = c.args.self.now.known }) in
    record { right = kept.right; known = kept.known }
