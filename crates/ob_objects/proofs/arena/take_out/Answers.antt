use Rattle.std.proofs.Common.{◌≡◌, ◌<◌, List, length, arith, Some, ap, sym, subst, ◌∙◌}
use Rattle.ob_model.specs.declared.objects.Entry.{Entry}
use Rattle.ob_objects.specs.declared.node.Node.{Node}
use Rattle.ob_objects.specs.declared.node.Side.TheVariants.{More}
use Rattle.ob_objects.specs.Nodes.{with_child}
use Rattle.ob_objects.specs.Spread.{IsSplit}
use Rattle.ob_objects.specs.Arena.{IsTaken, IsJoined}
use Rattle.ob_objects.proofs.Arenas.{arena_rooted}
use Rattle.ob_objects.proofs.Changing.{takes_none, takes_out, children_beside}
use Rattle.ob_objects.proofs.arena.take_out.Goals as goal

pub splay-top-requires-clause-rooted : goal.splay-top-requires-clause-rooted
splay-top-requires-clause-rooted c = (c.requires.0, arena_rooted c.args.nodes.now c.args.root c.args.free c.requires.0 c.requires.1 c.requires.2)

pub node_of-node-requires : goal.node_of-node-requires
node_of-node-requires c =
    let split = c.splay-top.ensures c.requires.0 (arena_rooted c.args.nodes.now c.args.root c.args.free c.requires.0 c.requires.1 c.requires.2) in
    (split.rooted.stands.0).within

pub returns-then-node-base : goal.returns-then-node-base
returns-then-node-base c = λ t frees arena.
    takes_none c.args.base c.args.nodes.now c.splay-top.new.nodes c.args.root c.splay-top.result c.args.free t frees arena
    (c.splay-top.ensures t (arena_rooted c.args.nodes.now c.args.root c.args.free t frees arena))
    (λ is. c.if-node-base.true (ap (λ (n : Node). n.entry.base) c.node_of-node.ensures ∙ is))

pub join-rest-requires : goal.join-rest-requires
join-rest-requires c =
    let split : IsSplit c.args.base c.args.nodes.now c.splay-top.new.nodes c.splay-top.result c.requires.0 = c.splay-top.ensures c.requires.0 (arena_rooted c.args.nodes.now c.args.root c.args.free c.requires.0 c.requires.1 c.requires.2) in
    (split.less, split.more, children_beside c.args.base c.args.nodes.now c.splay-top.new.nodes c.splay-top.result c.node_of-node.result.less c.node_of-node.result.more c.requires.0 split (ap (λ (n : Node). n.less) c.node_of-node.ensures) (ap (λ (n : Node). n.more) c.node_of-node.ensures))

pub set_child-requires : goal.set_child-requires
set_child-requires c =
    let split : IsSplit c.args.base c.args.nodes.now c.splay-top.new.nodes c.splay-top.result c.requires.0 = c.splay-top.ensures c.requires.0 (arena_rooted c.args.nodes.now c.args.root c.args.free c.requires.0 c.requires.1 c.requires.2) in
    let within : c.splay-top.result < length c.splay-top.new.nodes = (split.rooted.stands.0).within in
    omega arith

pub returns : goal.returns
returns c = λ t frees arena.
    let split : IsSplit c.args.base c.args.nodes.now c.splay-top.new.nodes c.splay-top.result t = c.splay-top.ensures t (arena_rooted c.args.nodes.now c.args.root c.args.free t frees arena) in
    let own : c.node_of-node.result.entry ≡ split.entry = ap (λ (n : Node). n.entry) c.node_of-node.ensures ∙ (split.rooted.stands.0).entry in
    let join : IsJoined c.splay-top.new.nodes c.join-rest.new.nodes c.join-rest.result split.less split.more =
    c.join-rest.ensures split.less split.more (children_beside c.args.base c.args.nodes.now c.splay-top.new.nodes c.splay-top.result c.node_of-node.result.less c.node_of-node.result.more t split (ap (λ (n : Node). n.less) c.node_of-node.ensures) (ap (λ (n : Node). n.more) c.node_of-node.ensures)) in
    let base_is : split.entry.base ≡ c.args.base = ap (λ (g : Entry). g.base) (sym own) ∙ c.if-node-base.false in
    subst (λ (ns : List Node). IsTaken c.args.base c.args.nodes.now ns c.join-rest.result c.splay-top.result (Some c.node_of-node.result.entry) t) (sym c.set_child.ensures)
    (subst (λ (g : Entry). IsTaken c.args.base c.args.nodes.now (with_child c.join-rest.new.nodes c.splay-top.result More c.args.free) c.join-rest.result c.splay-top.result (Some g) t) (sym own)
    (takes_out c.args.base c.args.nodes.now c.splay-top.new.nodes c.join-rest.new.nodes c.args.root c.splay-top.result c.args.free c.join-rest.result t frees arena split base_is join))
