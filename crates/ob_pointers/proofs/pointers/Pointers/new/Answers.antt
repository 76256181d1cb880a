use Rattle.std.proofs.Common.{◌≡◌, ap}
use Rattle.ob_away.specs.Slots.{Descriptors}
use Rattle.ob_pointers.proofs.Empty.{kept_empty}
use Rattle.ob_pointers.proofs.pointers.Pointers.new.Goals as goal

-- src/pointers.rt:66:9
pub invariant_of-result : goal.invariant_of-result
invariant_of-result c =
    kept_empty c.args.heap c.in_ok-new.field-0.entries c.in_ok-no_marks.field-0.items c.in_ok-new-2.field-0.slots
    (c.in_ok-new.ensures.empty)
    (c.in_ok-no_marks.ensures)
    (ap (λ (d : Descriptors). d.slots) c.in_ok-new-2.ensures)
