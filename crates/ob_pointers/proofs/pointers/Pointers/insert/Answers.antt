use Rattle.std.proofs.Common.{List, ap, sym, ◌∙◌, subst}
use Rattle.ob_model.specs.declared.objects.Entry.{Entry}
use Rattle.ob_model.specs.Entries.{with_live}
use Rattle.ob_objects.specs.Objects.{AreApart}
use Rattle.ob_pointers.specs.Pointing.{Pointing}
use Rattle.ob_pointers.specs.Kept.{IsKept}
use Rattle.ob_pointers.proofs.Lists.{all_from}
use Rattle.ob_pointers.proofs.Entering.{Asks, may_enter, kept_entered, pointing_entered}
use Rattle.ob_pointers.proofs.pointers.Pointers.insert.Goals as goal

pub insert-requires-clause-apart : goal.insert-requires-clause-apart
insert-requires-clause-apart c =
    let e = c.args.e in
    let asks : Asks e c.args.self.now = record { apart = c.requires.apart; number = c.requires.number; end = c.requires.end; place = c.requires.place } in
    let may = may_enter e c.self.inside.objects c.self.inside.freed.items c.self.inside.away c.self.inside.heap (subst (λ (p : Pointing). Asks e p) (sym c.self.view_is) asks) in
    all_from (AreApart e) c.self.inside.objects.entries may.apart

pub invariant_of-self : goal.invariant_of-self
invariant_of-self c =
    let e = c.args.e in
    let asks : Asks e c.args.self.now = record { apart = c.requires.apart; number = c.requires.number; end = c.requires.end; place = c.requires.place } in
    let may = may_enter e c.self.inside.objects c.self.inside.freed.items c.self.inside.away c.self.inside.heap (subst (λ (p : Pointing). Asks e p) (sym c.self.view_is) asks) in
    subst (λ (es : List Entry). IsKept es c.self.inside.freed.items c.self.inside.away.slots c.self.inside.heap) (sym c.insert.ensures.entries)
    (kept_entered e c.self.inside.objects.entries c.self.inside.freed.items c.self.inside.away.slots c.self.inside.heap c.self.invariant may)

pub returns : goal.returns
returns c =
    let e = c.args.e in
    let asks : Asks e c.args.self.now = record { apart = c.requires.apart; number = c.requires.number; end = c.requires.end; place = c.requires.place } in
    let may = may_enter e c.self.inside.objects c.self.inside.freed.items c.self.inside.away c.self.inside.heap (subst (λ (p : Pointing). Asks e p) (sym c.self.view_is) asks) in
    pointing_entered e c.self.inside.objects c.insert.new.self c.self.inside.freed.items c.self.inside.away c.self.inside.heap c.self.invariant may c.insert.ensures.entries c.insert.ensures.most
    ∙ ap (λ (p : Pointing). record p { entries = with_live e p.entries }) c.self.view_is
