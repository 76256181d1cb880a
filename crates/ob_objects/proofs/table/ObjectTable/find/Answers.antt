use Rattle.std.proofs.Common.{◌≡◌, length, ap, sym, ◌∙◌, subst, Some}
use Rattle.std.specs.Prelude.{IfSome}
use Rattle.ob_model.specs.Entries.{entry_at}
use Rattle.ob_objects.specs.Objects.{IsInOrder}
use Rattle.ob_objects.specs.Trees.{Tree, walk}
use Rattle.ob_objects.specs.Arena.{IsFound, root_entry}
use Rattle.ob_objects.proofs.Tables.{arena_in, kept_with, seen_with, seen_entries}
use Rattle.ob_objects.proofs.table.ObjectTable.find.Goals as goal

pub look_up-root-requires : goal.look_up-root-requires
look_up-root-requires c = (
  c.self.inside.free,
  c.self.invariant.tree,
  c.self.invariant.frees,
  arena_in c.self.inside.most c.self.inside.nodes c.as_mut_slice.result.now c.self.inside.root c.self.inside.free c.self.invariant c.as_mut_slice.ensures.value,
)

pub invariant_of-self : goal.invariant_of-self
invariant_of-self c =
    let found : IsFound c.args.address c.as_mut_slice.result.now c.look_up-root.new.nodes c.look_up-root.result.0 c.self.inside.free c.look_up-root.result.1 c.self.invariant.tree c.self.invariant.frees =
    c.look_up-root.ensures c.self.inside.free c.self.invariant.tree c.self.invariant.frees
    (arena_in c.self.inside.most c.self.inside.nodes c.as_mut_slice.result.now c.self.inside.root c.self.inside.free c.self.invariant c.as_mut_slice.ensures.value) in
    let size : length c.look_up-root.new.nodes ≡ length c.self.inside.nodes.items = found.size ∙ ap length c.as_mut_slice.ensures.value in
    kept_with c.self.inside.most c.self.inside.nodes c.look_up-root.new.nodes c.self.inside.root c.self.inside.free c.look_up-root.result.0 c.self.inside.free found.to c.self.invariant.frees c.self.invariant size found.arena

pub returns-clause-entry : goal.returns-clause-entry
returns-clause-entry c =
    let found : IsFound c.args.address c.as_mut_slice.result.now c.look_up-root.new.nodes c.look_up-root.result.0 c.self.inside.free c.look_up-root.result.1 c.self.invariant.tree c.self.invariant.frees =
    c.look_up-root.ensures c.self.inside.free c.self.invariant.tree c.self.invariant.frees
    (arena_in c.self.inside.most c.self.inside.nodes c.as_mut_slice.result.now c.self.inside.root c.self.inside.free c.self.invariant c.as_mut_slice.ensures.value) in
    found.found ∙ ap (entry_at c.args.address) (seen_entries c.self.inside.most c.self.inside.nodes c.self.inside.root c.self.inside.free c.args.self.now c.self.invariant c.self.view_is)

pub returns-clause-root : goal.returns-clause-root
returns-clause-root c =
    let found : IsFound c.args.address c.as_mut_slice.result.now c.look_up-root.new.nodes c.look_up-root.result.0 c.self.inside.free c.look_up-root.result.1 c.self.invariant.tree c.self.invariant.frees =
    c.look_up-root.ensures c.self.inside.free c.self.invariant.tree c.self.invariant.frees
    (arena_in c.self.inside.most c.self.inside.nodes c.as_mut_slice.result.now c.self.inside.root c.self.inside.free c.self.invariant c.as_mut_slice.ensures.value) in
    let size : length c.look_up-root.new.nodes ≡ length c.self.inside.nodes.items = found.size ∙ ap length c.as_mut_slice.ensures.value in
    subst (λ (t : Tree). IfSome c.look_up-root.result.1 (λ e. root_entry t ≡ Some e)) (sym (seen_with c.self.inside.nodes c.look_up-root.new.nodes c.look_up-root.result.0 c.self.inside.free found.to c.self.invariant.frees size found.arena)) found.at_root

pub returns-clause-kept : goal.returns-clause-kept
returns-clause-kept c =
    let found : IsFound c.args.address c.as_mut_slice.result.now c.look_up-root.new.nodes c.look_up-root.result.0 c.self.inside.free c.look_up-root.result.1 c.self.invariant.tree c.self.invariant.frees =
    c.look_up-root.ensures c.self.inside.free c.self.invariant.tree c.self.invariant.frees
    (arena_in c.self.inside.most c.self.inside.nodes c.as_mut_slice.result.now c.self.inside.root c.self.inside.free c.self.invariant c.as_mut_slice.ensures.value) in
    let size : length c.look_up-root.new.nodes ≡ length c.self.inside.nodes.items = found.size ∙ ap length c.as_mut_slice.ensures.value in
    ap walk (seen_with c.self.inside.nodes c.look_up-root.new.nodes c.look_up-root.result.0 c.self.inside.free found.to c.self.invariant.frees size found.arena)
    ∙ found.same_walk
    ∙ seen_entries c.self.inside.most c.self.inside.nodes c.self.inside.root c.self.inside.free c.args.self.now c.self.invariant c.self.view_is

pub returns-clause-in_order : goal.returns-clause-in_order
returns-clause-in_order c =
    let found : IsFound c.args.address c.as_mut_slice.result.now c.look_up-root.new.nodes c.look_up-root.result.0 c.self.inside.free c.look_up-root.result.1 c.self.invariant.tree c.self.invariant.frees =
    c.look_up-root.ensures c.self.inside.free c.self.invariant.tree c.self.invariant.frees
    (arena_in c.self.inside.most c.self.inside.nodes c.as_mut_slice.result.now c.self.inside.root c.self.inside.free c.self.invariant c.as_mut_slice.ensures.value) in
    let size : length c.look_up-root.new.nodes ≡ length c.self.inside.nodes.items = found.size ∙ ap length c.as_mut_slice.ensures.value in
    subst (λ (t : Tree). IsInOrder (walk t)) (sym (seen_with c.self.inside.nodes c.look_up-root.new.nodes c.look_up-root.result.0 c.self.inside.free found.to c.self.invariant.frees size found.arena)) found.arena.in_order
