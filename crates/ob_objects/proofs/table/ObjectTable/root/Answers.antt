use Rattle.std.proofs.Common.{List, arith, ◌∙◌, subst}
use Rattle.std.specs.List.{Contains}
use Rattle.ob_model.specs.declared.objects.Entry.{Entry}
use Rattle.ob_objects.proofs.Tables.{seen_entries, some_entries, root_among}
use Rattle.ob_objects.proofs.table.ObjectTable.root.Goals as goal

pub returns-clause-none : goal.returns-clause-none
returns-clause-none c = (
  λ no. cc,
  λ none. absurd (some_entries c.self.invariant.tree (omega (arith, c.self.invariant.arena.link, c.if-self-eq0.false)) (seen_entries c.self.inside.most c.self.inside.nodes c.self.inside.root c.self.inside.free c.args.self.now c.self.invariant c.self.view_is ∙ none)),
)

pub returns-clause-among : goal.returns-clause-among
returns-clause-among c =
    subst (λ (es : List Entry). Contains es c.index.result.now.entry)
    (seen_entries c.self.inside.most c.self.inside.nodes c.self.inside.root c.self.inside.free c.args.self.now c.self.invariant c.self.view_is)
    (root_among c.self.inside.nodes.items c.self.inside.root c.self.invariant.tree c.index.result.now (omega (arith, c.if-self-eq0.false)) c.self.invariant.arena.link c.self.invariant.arena.stands c.index.ensures)
