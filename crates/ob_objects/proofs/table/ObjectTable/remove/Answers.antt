use Rattle.std.proofs.Common.{◌≡◌, length, ap, ◌∙◌}
use Rattle.ob_model.specs.Entries.{at_base, without_base}
use Rattle.ob_objects.specs.Trees.{walk}
use Rattle.ob_objects.specs.Arena.{IsTaken}
use Rattle.ob_objects.proofs.Tables.{arena_in, kept_with, seen_with, seen_entries}
use Rattle.ob_objects.proofs.table.ObjectTable.remove.Goals as goal

pub take_out-taken-requires : goal.take_out-taken-requires
take_out-taken-requires c = (
  c.self.invariant.tree,
  c.self.invariant.frees,
  arena_in c.self.inside.most c.self.inside.nodes c.as_mut_slice.result.now c.self.inside.root c.self.inside.free c.self.invariant c.as_mut_slice.ensures.value,
)

pub invariant_of-self : goal.invariant_of-self
invariant_of-self c =
    let taken : IsTaken c.args.base c.as_mut_slice.result.now c.take_out-taken.new.nodes c.take_out-taken.result.root c.take_out-taken.result.free c.take_out-taken.result.entry c.self.invariant.tree =
    c.take_out-taken.ensures c.self.invariant.tree c.self.invariant.frees
    (arena_in c.self.inside.most c.self.inside.nodes c.as_mut_slice.result.now c.self.inside.root c.self.inside.free c.self.invariant c.as_mut_slice.ensures.value) in
    let size : length c.take_out-taken.new.nodes ≡ length c.self.inside.nodes.items = taken.size ∙ ap length c.as_mut_slice.ensures.value in
    kept_with c.self.inside.most c.self.inside.nodes c.take_out-taken.new.nodes c.self.inside.root c.self.inside.free c.take_out-taken.result.root c.take_out-taken.result.free taken.to taken.frees c.self.invariant size taken.arena

pub returns-clause-entry : goal.returns-clause-entry
returns-clause-entry c =
    let taken : IsTaken c.args.base c.as_mut_slice.result.now c.take_out-taken.new.nodes c.take_out-taken.result.root c.take_out-taken.result.free c.take_out-taken.result.entry c.self.invariant.tree =
    c.take_out-taken.ensures c.self.invariant.tree c.self.invariant.frees
    (arena_in c.self.inside.most c.self.inside.nodes c.as_mut_slice.result.now c.self.inside.root c.self.inside.free c.self.invariant c.as_mut_slice.ensures.value) in
    taken.found ∙ ap (at_base c.args.base) (seen_entries c.self.inside.most c.self.inside.nodes c.self.inside.root c.self.inside.free c.args.self.now c.self.invariant c.self.view_is)

pub returns-clause-others : goal.returns-clause-others
returns-clause-others c =
    let taken : IsTaken c.args.base c.as_mut_slice.result.now c.take_out-taken.new.nodes c.take_out-taken.result.root c.take_out-taken.result.free c.take_out-taken.result.entry c.self.invariant.tree =
    c.take_out-taken.ensures c.self.invariant.tree c.self.invariant.frees
    (arena_in c.self.inside.most c.self.inside.nodes c.as_mut_slice.result.now c.self.inside.root c.self.inside.free c.self.invariant c.as_mut_slice.ensures.value) in
    let size : length c.take_out-taken.new.nodes ≡ length c.self.inside.nodes.items = taken.size ∙ ap length c.as_mut_slice.ensures.value in
    ap walk (seen_with c.self.inside.nodes c.take_out-taken.new.nodes c.take_out-taken.result.root c.take_out-taken.result.free taken.to taken.frees size taken.arena)
    ∙ taken.others
    ∙ ap (without_base c.args.base) (seen_entries c.self.inside.most c.self.inside.nodes c.self.inside.root c.self.inside.free c.args.self.now c.self.invariant c.self.view_is)
