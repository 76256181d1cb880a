use Rattle.std.proofs.Common.{ap, ◌∙◌}
use Rattle.ob_model.specs.Descriptors.{Slots, slot_of}
use Rattle.ob_away.specs.Slots.{Descriptors}
use Rattle.ob_away.proofs.table.AwayTable.find.Goals as goal

pub returns-clause-slot : goal.returns-clause-slot
returns-clause-slot c =
    c.find.ensures
    ∙ ap (λ (xs : Slots). slot_of xs c.args.pair) c.as_slice.ensures.value
    ∙ ap (λ (table : Descriptors). slot_of table.slots c.args.pair) c.self.view_is

pub returns-clause-interned : goal.returns-clause-interned
returns-clause-interned c = rw (← c.self.view_is) c.self.invariant.interned
