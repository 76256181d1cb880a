use Rattle.std.proofs.Common.{◌≡◌, ℤ, to_z, of_z, w64, subst}
use Rattle.std.proofs.lemmas.Int.{to_z-of_z}
use Rattle.ob_pointers.specs.Pointing.{Shifts}
use Rattle.ob_lifetimes.proofs.Keeping.{kept_slots}
use Rattle.ob_lifetimes.proofs.Moving.{moved_slots}
use Rattle.ob_lifetimes.proofs.lifetimes.Lifetimes.shift.Goals as goal

pub invariant_of-self : goal.invariant_of-self
invariant_of-self c =
    let i = c.self.inside in
    let displacement : to_z w64 (of_z w64 c.args.displacement) ≡ c.args.displacement = to_z-of_z w64 c.args.displacement c.ranges.displacement in
    let moved : Shifts c.args.w c.args.displacement i.pointers c.shift.result c.shift.new.self = subst (λ (z : ℤ). Shifts c.args.w z i.pointers c.shift.result c.shift.new.self) displacement c.shift.ensures.moved in
    let slots = moved_slots i.pointers c.shift.new.self c.args.w c.args.displacement c.shift.result moved c.shift.ensures.unchanged c.self.invariant.slots in
    rw c.shift.ensures.entries (kept_slots i.pointers i.shelf i.outside i.most_statics i.statics i.locals i.next c.self.invariant c.shift.new.self.slots slots)
