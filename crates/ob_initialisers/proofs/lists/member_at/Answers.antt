use Rattle.std.proofs.Common.{◌∙◌}
use Rattle.ob_tree.specs.StructsView.{plain_structs}
use Rattle.ob_initialisers.proofs.Members.{row_type}
use Rattle.ob_initialisers.proofs.lists.member_at.Goals as goal

pub returns-in-Some : goal.returns-in-Some
returns-in-Some c = c.member_type.ensures ∙ row_type (plain_structs c.args.s.now) _ _ c.args.i c.in-Some.ensures
