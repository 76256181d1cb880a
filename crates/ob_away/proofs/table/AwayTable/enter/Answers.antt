use Rattle.std.proofs.Common.{◌≡◌, length, set, Some, None, Ok, arith, ap, ◌∙◌, refl}
use Rattle.std.proofs.lemmas.List.{length-set}
use Rattle.ob_model.specs.Descriptors.{Slots, slot_of, word_of}
use Rattle.ob_away.specs.Slots.{Descriptors}
use Rattle.ob_away.specs.Kept.{IsIndexed}
use Rattle.ob_away.proofs.Changes.{IsInterned-same, IsIndexed-same, IsInterned-entered, IsIndexed-entered}
use Rattle.ob_away.proofs.Linked.{IsLinked-same}
use Rattle.ob_away.proofs.Vacant.{slot_of-same}
use Rattle.ob_away.proofs.table.AwayTable.enter.Goals as goal

pub invariant_of-self : goal.invariant_of-self
invariant_of-self c =
    let same = c.claim.ensures.kept in
    record {
      within = c.claim.ensures.within;
      interned = IsInterned-same c.self.inside.slots.items c.claim.new.slots.items same c.self.invariant.interned;
      indexed = IsIndexed-same c.self.inside.index c.self.inside.slots.items c.claim.new.slots.items same c.self.invariant.indexed;
      listed = rw c.in_default.ensures.none c.in_default.ensures.unlisted;
      linked = IsLinked-same c.self.inside.heads c.self.inside.next.items c.self.inside.slots.items c.claim.new.slots.items same c.self.invariant.linked;
      next_long = c.self.invariant.next_long;
      roomy = c.self.invariant.roomy;
      heads_roomy = c.self.invariant.heads_roomy;
      slots_fit = c.claim.ensures.fit;
      free_fit = omega (arith, c.claim.ensures.capacity, c.self.invariant.free_fit);
    }

pub note-requires-clause-indexed : goal.note-requires-clause-indexed
note-requires-clause-indexed c =
    let same = c.claim.ensures.kept in
    rw c.as_slice-slots.ensures.value (IsIndexed-same c.self.inside.index c.self.inside.slots.items c.claim.new.slots.items same c.self.invariant.indexed)

pub note-requires-clause-distinct : goal.note-requires-clause-distinct
note-requires-clause-distinct c =
    let same = c.claim.ensures.kept in
    rw c.as_slice-slots.ensures.value (IsInterned-same c.self.inside.slots.items c.claim.new.slots.items same c.self.invariant.interned)

pub note-requires-clause-absent : goal.note-requires-clause-absent
note-requires-clause-absent c =
    let absent : slot_of c.claim.new.slots.items c.args.pair ≡ None =
    slot_of-same c.self.inside.slots.items c.claim.new.slots.items c.args.pair c.claim.ensures.kept
    (ap (λ (table : Descriptors). slot_of table.slots c.args.pair) c.self.view_is ∙ c.requires) in
    rw c.as_slice-slots.ensures.value absent

pub link-requires-clause-linked : goal.link-requires-clause-linked
link-requires-clause-linked c =
    let same = c.claim.ensures.kept in
    rw c.as_slice-slots.ensures.value (IsLinked-same c.self.inside.heads c.self.inside.next.items c.self.inside.slots.items c.claim.new.slots.items same c.self.invariant.linked)

pub link-requires-clause-vacant : goal.link-requires-clause-vacant
link-requires-clause-vacant c = rw c.as_slice-slots.ensures.value c.in-Some.ensures.vacant

pub invariant_of-self-2 : goal.invariant_of-self-2
invariant_of-self-2 c =
    let same = c.claim.ensures.kept in
    let absent : slot_of c.claim.new.slots.items c.args.pair ≡ None =
    slot_of-same c.self.inside.slots.items c.claim.new.slots.items c.args.pair c.claim.ensures.kept
    (ap (λ (table : Descriptors). slot_of table.slots c.args.pair) c.self.view_is ∙ c.requires) in
    let indexed : IsIndexed c.note.new.index c.claim.new.slots.items = rw (← c.as_slice-slots.ensures.value) c.note.ensures.indexed in
    let long : length (set c.claim.new.slots.items c.in-Some.slot (Some c.args.pair)) ≡ length c.claim.new.slots.items = length-set c.claim.new.slots.items c.in-Some.slot (Some c.args.pair) in
    let linked = c.link.ensures.linked c.args.pair refl in
    record {
      within = omega (arith, long, c.in-Some.ensures.within);
      interned = IsInterned-entered c.claim.new.slots.items c.in-Some.slot c.args.pair c.in-Some.ensures.inside absent (IsInterned-same c.self.inside.slots.items c.claim.new.slots.items same c.self.invariant.interned);
      indexed = IsIndexed-entered c.note.new.index c.claim.new.slots.items c.in-Some.slot c.args.pair c.in-Some.ensures.inside c.note.ensures.named indexed;
      listed = c.in-Some.ensures.listed c.args.pair;
      linked = rw (← c.as_slice-slots.ensures.value) linked;
      next_long = c.link.ensures.long ∙ c.self.invariant.next_long;
      roomy = omega (arith, c.note.ensures.room, c.self.invariant.roomy);
      heads_roomy = omega (arith, c.link.ensures.room, c.self.invariant.heads_roomy);
      slots_fit = c.claim.ensures.fit;
      free_fit = omega (arith, c.claim.ensures.capacity, c.self.invariant.free_fit);
    }

pub returns-clause-entered : goal.returns-clause-entered
returns-clause-entered c =
    let table : Slots → Descriptors = λ xs. record { limit = c.self.inside.limit; slots = xs } in
    rw (← c.self.view_is) (λ room. record {
      word = ap Ok (c.word_of.ensures ∙ ap word_of c.in-Some.ensures.slot);
      slots = ap table (c.in-Some.ensures.put c.args.pair);
    })
