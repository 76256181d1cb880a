use Rattle.std.proofs.Common.{None, [], ◌∷◌, ◌++◌, subst, sym}
use Rattle.ob_tree.specs.Types.{unknown_struct}
use Rattle.ob_tree.specs.StructsView.{plain_structs}
use Rattle.ob_members.specs.Indexes.{AreRight}
use Rattle.ob_members.proofs.KeptIndexes.{right_declared, right_either, right_pushed}
use Rattle.ob_members.proofs.structures.Structures.declare.Goals as goal

pub invariant_of-self-2 : goal.invariant_of-self-2
invariant_of-self-2 c =
    let s = plain_structs c.args.self.now.rows in
    let is = c.args.self.now.indexes.items in
    let t = s ++ unknown_struct ∷ [] in
    let u = plain_structs c.declare.new.self in
    let before = right_pushed s is c.args.self.now.right in
    let after = right_either s t u (is ++ None ∷ []) c.declare.result c.declare.ensures.ok c.declare.ensures.err (right_declared s (is ++ None ∷ []) before) before in
    record { right = subst (AreRight u) (sym c.in_ok-push.ensures.items) after }
