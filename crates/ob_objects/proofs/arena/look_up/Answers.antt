use Rattle.ob_objects.proofs.Arenas.{arena_rooted}
use Rattle.ob_objects.proofs.Changing.{finds}
use Rattle.ob_objects.proofs.arena.look_up.Goals as goal

pub splay-top-requires-clause-rooted : goal.splay-top-requires-clause-rooted
splay-top-requires-clause-rooted c = (c.requires.1, arena_rooted c.args.nodes.now c.args.root c.requires.0 c.requires.1 c.requires.2 c.requires.3)

pub bounds-nodes-top : goal.bounds-nodes-top
bounds-nodes-top c =
    let split = c.splay-top.ensures c.requires.1 (arena_rooted c.args.nodes.now c.args.root c.requires.0 c.requires.1 c.requires.2 c.requires.3) in
    (split.rooted.stands.0).within

pub returns : goal.returns
returns c = λ free t frees arena.
    finds c.args.address c.args.nodes.now c.splay-top.new.nodes c.args.root c.splay-top.result free t frees c.entry_if.result arena
    (c.splay-top.ensures t (arena_rooted c.args.nodes.now c.args.root free t frees arena))
    c.entry_if.ensures
