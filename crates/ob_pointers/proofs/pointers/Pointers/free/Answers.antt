use Rattle.std.proofs.Common.{Bool, List, ap, sym, ◌∙◌, subst}
use Rattle.ob_model.specs.Entries.{with_freed}
use Rattle.ob_pointers.specs.Pointing.{Pointing, IsAt}
use Rattle.ob_pointers.specs.Kept.{IsKept}
use Rattle.ob_pointers.proofs.Leaving.{IsNamed, named_by, kept_freed, pointing_freed}
use Rattle.ob_pointers.proofs.pointers.Pointers.free.Goals as goal

pub invariant_of-self : goal.invariant_of-self
invariant_of-self c =
    let named : IsNamed c.args.base c.args.object c.self.inside.objects.entries =
    named_by c.args.base c.args.object c.self.inside.objects c.self.inside.freed.items c.self.inside.away c.self.inside.heap (subst (λ (p : Pointing). IsAt c.args.base c.args.object p) (sym c.self.view_is) c.requires.known) in
    subst (λ (m : List Bool). IsKept c.self.inside.objects.entries m c.self.inside.away.slots c.self.inside.heap) (sym c.set_mark.ensures)
    (kept_freed c.self.inside.objects.entries c.self.inside.freed.items c.self.inside.away.slots c.self.inside.heap c.self.invariant c.args.base c.args.object named c.requires.heap)

pub returns : goal.returns
returns c =
    let named : IsNamed c.args.base c.args.object c.self.inside.objects.entries =
    named_by c.args.base c.args.object c.self.inside.objects c.self.inside.freed.items c.self.inside.away c.self.inside.heap (subst (λ (p : Pointing). IsAt c.args.base c.args.object p) (sym c.self.view_is) c.requires.known) in
    pointing_freed c.self.inside.objects c.self.inside.freed.items c.set_mark.new.marks.items c.self.inside.away c.self.inside.heap c.args.base c.args.object c.self.invariant named c.requires.heap c.set_mark.ensures
    ∙ ap (λ (p : Pointing). record p { entries = with_freed c.args.object p.entries }) c.self.view_is
