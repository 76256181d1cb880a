use Rattle.std.proofs.Common.{◌≡◌, ◌<◌, ◌≤◌, List, length, take, get_or, arith, ap, sym, subst, ◌∙◌}
use Rattle.std.specs.List.{All}
use Rattle.std.proofs.lemmas.List.{take_all}
use Rattle.std.proofs.lemmas.List.Elements.{All-more}
use Rattle.ob_model.specs.declared.objects.Entry.{Entry}
use Rattle.ob_objects.specs.Objects.{AreApart}
use Rattle.ob_objects_trials.specs.Sorted.{Sorted}
use Rattle.ob_objects_trials.proofs.Order.{no_entry}
use Rattle.ob_objects_trials.proofs.sorted.SortedTable.takes.Goals as goal

pub loop-f-preserved : goal.loop-f-preserved
loop-f-preserved c =
    let within : c.loop-f.f-index < length c.deref-f-items.result.now = omega arith in
    All-more (AreApart c.args.e) c.deref-f-items.result.now c.loop-f.f-index no_entry within c.loop-f.invariant (c.are_apart.ensures c.if-not-are_apart.false)

pub returns-clause-apart : goal.returns-clause-apart
returns-clause-apart c = λ room.
    let past : length c.deref-f-items.result.now ≤ c.loop-f.f-index = omega arith in
    subst (All (AreApart c.args.e)) (take_all c.loop-f.f-index c.deref-f-items.result.now past ∙ c.deref-f-items.ensures.value ∙ ap (λ (s : Sorted). s.entries) c.self.view_is) c.loop-f.invariant
