use Rattle.std.proofs.Common.{◌≡◌, Some, Result, ℕ, sym, ◌∙◌, subst, refl, w64, to_z, of_z}
use Rattle.std.proofs.lemmas.Int.{to_z-of_z}
use Rattle.std.specs.List.{Contains}
use Rattle.ob_access.specs.declared.pointee.Pointee.{Pointee}
use Rattle.ob_pointers.specs.declared.pointers.ShiftAnswer.{ShiftAnswer}
use Rattle.ob_pointers.specs.Pointing.{Pointing, IsKnownPointee}
use Rattle.ob_pointers.specs.Placing.{IsSlotted}
use Rattle.ob_pointers.specs.Kept.{pointing_in}
use Rattle.ob_pointers.proofs.Sound.{entry_among}
use Rattle.ob_pointers.proofs.Slotting.{outcome_at, kept_by, slotted}
use Rattle.ob_pointers.proofs.pointers.Pointers.slot_word.Goals as goal

pub invariant_of-self : goal.invariant_of-self
invariant_of-self c =
    let entries = c.self.inside.objects.entries in
    let marks = c.self.inside.freed.items in
    let p = c.in-Some.pointee in
    let among : Contains entries p.entry = entry_among entries marks p (subst (λ (q : Pointing). IsKnownPointee q.entries p) (sym c.self.view_is) (c.requires p c.in-Some.is)) in
    let outcome = outcome_at c.self.inside.away c.word_for.new.self c.word_for.result p.entry.base (to_z w64 (of_z w64 c.args.offset)) c.args.offset (to_z-of_z w64 c.args.offset c.ranges.offset) (record { listed = c.word_for.ensures.listed; entered = c.word_for.ensures.entered; full = c.word_for.ensures.full; unchanged = c.word_for.ensures.unchanged }) in
    kept_by entries marks c.self.inside.heap c.self.inside.away c.word_for.new.self c.word_for.result (p.entry.base, c.args.offset) c.self.invariant (record { entry = p.entry; among = among; there = refl }) outcome

pub returns-clause-slotted : goal.returns-clause-slotted
returns-clause-slotted c q is =
    let entries = c.self.inside.objects.entries in
    let marks = c.self.inside.freed.items in
    let p = c.in-Some.pointee in
    let among : Contains entries p.entry = entry_among entries marks p (subst (λ (r : Pointing). IsKnownPointee r.entries p) (sym c.self.view_is) (c.requires p c.in-Some.is)) in
    let outcome = outcome_at c.self.inside.away c.word_for.new.self c.word_for.result p.entry.base (to_z w64 (of_z w64 c.args.offset)) c.args.offset (to_z-of_z w64 c.args.offset c.ranges.offset) (record { listed = c.word_for.ensures.listed; entered = c.word_for.ensures.entered; full = c.word_for.ensures.full; unchanged = c.word_for.ensures.unchanged }) in
    let same : p ≡ q = let e : Some p ≡ Some q = sym c.in-Some.is ∙ is in cc in
    let new = pointing_in c.self.inside.objects marks c.word_for.new.self c.self.inside.heap in
    let done = slotted c.self.inside.objects marks c.self.inside.heap c.self.inside.away c.self.invariant p.entry among c.args.offset c.word_for.new.self c.word_for.result outcome in
    let answered = subst (λ (r : Result ℕ ShiftAnswer). IsSlotted (p.entry.object, c.args.offset) (pointing_in c.self.inside.objects marks c.self.inside.away c.self.inside.heap) r new) (sym c.answered.ensures) done in
    let seen = subst (λ (old : Pointing). IsSlotted (p.entry.object, c.args.offset) old c.answered.result new) c.self.view_is answered in
    subst (λ (r : Pointee). IsSlotted (r.entry.object, c.args.offset) c.args.self.now c.answered.result new) same seen
