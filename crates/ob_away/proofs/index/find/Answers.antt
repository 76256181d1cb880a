use Rattle.std.proofs.Common.{◌≡◌, Some, None, sym, ◌∙◌}
use Rattle.ob_away.specs.Kept.{named}
use Rattle.ob_away.proofs.Pairs.{slot_of-named, slot_of-unnamed}
use Rattle.ob_away.proofs.index.find.Goals as goal

pub returns-in-Some : goal.returns-in-Some
returns-in-Some c = sym (slot_of-named c.args.index.now c.args.slots.now c.args.pair c.in-Some.slot c.requires (sym c.named_slot.ensures ∙ c.in-Some.is) (sym c.holds_pair.ensures ∙ c.if-holds_pair.true))

pub returns-in_default : goal.returns-in_default
returns-in_default c = sym (slot_of-unnamed c.args.index.now c.args.slots.now c.args.pair c.requires (λ k is_named.
    let same : Some c.in-Some.slot ≡ Some k = sym c.in-Some.is ∙ c.named_slot.ensures ∙ is_named in
    let slot : c.in-Some.slot ≡ k = cc in
    let empty = sym c.holds_pair.ensures ∙ c.if-holds_pair.false in
    rw (← slot) empty))

pub returns-in_default-2 : goal.returns-in_default-2
returns-in_default-2 c = sym (slot_of-unnamed c.args.index.now c.args.slots.now c.args.pair c.requires (λ k is_named.
    let none : named c.args.index.now c.args.pair ≡ None = sym c.named_slot.ensures ∙ c.in_default.is in
    absurd cc))
