use Rattle.ob_objects.proofs.Changing.{opens}
use Rattle.ob_objects.proofs.arena.open.Goals as goal

pub splay-top-requires-clause-rooted : goal.splay-top-requires-clause-rooted
splay-top-requires-clause-rooted c = (c.requires.0, c.requires.1)

pub cut-requires : goal.cut-requires
cut-requires c =
    let split = c.splay-top.ensures c.requires.0 c.requires.1 in
    (split.rooted.stands.0).within

pub returns : goal.returns
returns c = λ t rooted apart.
    opens c.args.e c.args.nodes.now c.splay-top.new.nodes c.splay-top.result t (c.splay-top.ensures t rooted) apart c.cut.new.nodes c.cut.result c.cut.ensures.nodes c.cut.ensures.node
