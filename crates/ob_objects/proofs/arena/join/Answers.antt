use Rattle.std.proofs.Common.{List, sym, subst}
use Rattle.ob_objects.specs.declared.node.Node.{Node}
use Rattle.ob_objects.specs.Arena.{IsJoined}
use Rattle.ob_objects.proofs.Changing.{joins}
use Rattle.ob_objects.proofs.arena.join.Goals as goal

pub splay-top-requires-clause-rooted : goal.splay-top-requires-clause-rooted
splay-top-requires-clause-rooted c = (c.requires.0, (c.requires.2).first_rooted)

pub set_child-requires : goal.set_child-requires
set_child-requires c =
    let split = c.splay-top.ensures c.requires.0 (c.requires.2).first_rooted in
    (split.rooted.stands.0).within

pub returns : goal.returns
returns c = λ first second beside.
    subst (λ (ns : List Node). IsJoined c.args.nodes.now ns c.splay-top.result first second) (sym c.set_child.ensures)
    (joins c.args.address c.args.nodes.now c.splay-top.new.nodes c.args.less c.args.more c.splay-top.result first second beside (c.splay-top.ensures first beside.first_rooted))
