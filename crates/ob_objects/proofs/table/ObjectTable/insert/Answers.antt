use Rattle.ob_objects.proofs.Tables.{open_needs, put_free, put_room, insert_keeps, insert_enters}
use Rattle.ob_objects.proofs.table.ObjectTable.insert.Goals as goal

pub open-node-requires : goal.open-node-requires
open-node-requires c =
    open_needs c.args.e c.self.inside.most c.self.inside.nodes c.as_mut_slice.result.now c.self.inside.root c.self.inside.free c.args.self.now c.self.invariant c.self.view_is c.as_mut_slice.ensures.value c.requires.apart c.requires.room

pub put_node-self-inside-requires-clause-free : goal.put_node-self-inside-requires-clause-free
put_node-self-inside-requires-clause-free c =
    put_free c.args.e c.self.inside.most c.self.inside.nodes c.as_mut_slice.result.now c.self.inside.root c.self.inside.free c.args.self.now c.self.invariant c.self.view_is c.as_mut_slice.ensures.value c.requires.apart c.requires.room
    c.open-node.new.nodes c.open-node.result c.open-node.ensures

pub put_node-self-inside-requires-clause-room : goal.put_node-self-inside-requires-clause-room
put_node-self-inside-requires-clause-room c =
    put_room c.args.e c.self.inside.most c.self.inside.nodes c.as_mut_slice.result.now c.self.inside.root c.self.inside.free c.args.self.now c.self.invariant c.self.view_is c.as_mut_slice.ensures.value c.requires.apart c.requires.room
    c.open-node.new.nodes c.open-node.result c.open-node.ensures

pub invariant_of-self : goal.invariant_of-self
invariant_of-self c =
    insert_keeps c.args.e c.self.inside.most c.self.inside.nodes c.as_mut_slice.result.now c.self.inside.root c.self.inside.free c.args.self.now c.self.invariant c.self.view_is c.as_mut_slice.ensures.value c.requires.apart c.requires.room
    c.open-node.new.nodes c.open-node.result c.open-node.ensures
    c.put_node-self-inside.new.nodes c.put_node-self-inside.result c.put_node-self-inside.new.free c.put_node-self-inside.ensures.nodes c.put_node-self-inside.ensures.place c.put_node-self-inside.ensures.free c.put_node-self-inside.ensures.capacity

pub returns-clause-entries : goal.returns-clause-entries
returns-clause-entries c =
    insert_enters c.args.e c.self.inside.most c.self.inside.nodes c.as_mut_slice.result.now c.self.inside.root c.self.inside.free c.args.self.now c.self.invariant c.self.view_is c.as_mut_slice.ensures.value c.requires.apart c.requires.room
    c.open-node.new.nodes c.open-node.result c.open-node.ensures
    c.put_node-self-inside.new.nodes c.put_node-self-inside.result c.put_node-self-inside.new.free c.put_node-self-inside.ensures.nodes c.put_node-self-inside.ensures.place c.put_node-self-inside.ensures.free c.put_node-self-inside.ensures.capacity
