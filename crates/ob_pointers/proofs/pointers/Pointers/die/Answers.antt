use Rattle.std.proofs.Common.{◌==◌, ap, sym, ◌∙◌, subst}
use Rattle.ob_model.specs.Descriptors.{surviving_pairs}
use Rattle.ob_model.specs.Entries.{surviving_known}
use Rattle.ob_away.specs.Slots.{Descriptors}
use Rattle.ob_pointers.specs.Pointing.{Pointing, IsAt}
use Rattle.ob_pointers.proofs.Leaving.{IsNamed, named_by, kept_died, pointing_died}
use Rattle.ob_pointers.proofs.pointers.Pointers.die.Goals as goal

pub invariant_of-self : goal.invariant_of-self
invariant_of-self c =
    let named : IsNamed c.args.base c.args.object c.self.inside.objects.entries =
    named_by c.args.base c.args.object c.self.inside.objects c.self.inside.freed.items c.self.inside.away c.self.inside.heap (subst (λ (p : Pointing). IsAt c.args.base c.args.object p) (sym c.self.view_is) c.requires) in
    kept_died c.self.inside.objects.entries c.self.inside.freed.items c.self.inside.away.slots c.self.inside.heap c.args.base c.args.object c.self.invariant named
    c.remove.new.self.entries c.set_mark.new.marks.items c.forget.new.self.slots c.remove.ensures.others c.set_mark.ensures (ap (λ (d : Descriptors). d.slots) c.forget.ensures)

pub returns : goal.returns
returns c =
    let named : IsNamed c.args.base c.args.object c.self.inside.objects.entries =
    named_by c.args.base c.args.object c.self.inside.objects c.self.inside.freed.items c.self.inside.away c.self.inside.heap (subst (λ (p : Pointing). IsAt c.args.base c.args.object p) (sym c.self.view_is) c.requires) in
    pointing_died c.self.inside.objects c.remove.new.self c.self.inside.freed.items c.set_mark.new.marks.items c.self.inside.away c.forget.new.self c.self.inside.heap c.args.base c.args.object c.self.invariant named
    c.remove.ensures.others c.remove.ensures.most c.set_mark.ensures c.forget.ensures
    ∙ ap (λ (p : Pointing). record p { entries = surviving_known (λ other. other == c.args.object) p.entries; slots = surviving_pairs (λ other. other == c.args.object) p.slots }) c.self.view_is
