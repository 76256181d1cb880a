use Rattle.ob_tree.specs.Types.{with_members}
use Rattle.ob_tree.specs.TypeView.{plain_members}
use Rattle.ob_tree.specs.StructsView.{plain_structs}
use Rattle.ob_members.proofs.KeptIndexes.{right_completed, right_either}
use Rattle.ob_members.proofs.structures.Structures.complete.Goals as goal

pub invariant_of-self : goal.invariant_of-self
invariant_of-self c =
    let s = plain_structs c.args.self.now.rows in
    let is = c.args.self.now.indexes.items in
    let ms = plain_members c.args.members.items in
    let after = right_completed s is c.args.number ms c.requires c.args.self.now.right in
    record { right = right_either s (with_members s c.args.number ms) (plain_structs c.complete.new.s) is c.complete.result c.complete.ensures.ok c.complete.ensures.err after c.args.self.now.right }
