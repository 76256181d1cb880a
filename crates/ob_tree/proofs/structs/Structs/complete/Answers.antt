use Rattle.std.proofs.Common.{refl}
use Rattle.ob_tree.specs.TypeView.{plain_members}
use Rattle.ob_tree.specs.StructLayouts.{shown_layout}
use Rattle.ob_tree.proofs.KeptRows.{replaced, replaced_rows}
use Rattle.ob_tree.proofs.structs.Structs.complete.Goals as goal

pub invariant_of-self : goal.invariant_of-self
invariant_of-self c =
    let kept = replaced c.args.self.now.rows.items _ c.args.number (plain_members c.args.members.items) (shown_layout c.args.layout) (record { right = c.args.self.now.right; known = c.args.self.now.known }) c.requires.declared c.requires.layout refl refl in
    record { right = kept.right; known = kept.known }

pub returns : goal.returns
returns c = replaced_rows c.args.self.now.rows.items _ c.args.number (plain_members c.args.members.items) refl
