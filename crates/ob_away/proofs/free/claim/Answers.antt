use Rattle.std.proofs.Common.{◌≡◌, None, Some, arith, sym, ap, ◌∙◌}
use Rattle.ob_model.specs.Descriptors.{vacant}
use Rattle.ob_away.specs.Kept.{IsListed}
use Rattle.ob_away.proofs.Vacant.{pair_count-vacant, pair_in-vacant, extended-count, extended-put, extended-listed, extended-vacant}
use Rattle.ob_away.proofs.free.claim.Goals as goal

pub returns-in-Some-clause-count : goal.returns-in-Some-clause-count
returns-in-Some-clause-count c =
    let found : vacant c.args.slots.now.items ≡ Some c.in-Some.slot = sym (c.in-Some.ensures.slot ∙ ap vacant c.deref.ensures.value) in
    omega (arith, pair_count-vacant c.args.slots.now.items c.in-Some.slot found, c.requires.within)

pub returns-clause-count : goal.returns-clause-count
returns-clause-count c =
    let none : vacant c.args.slots.now.items ≡ None = sym (c.in_default.ensures.slot ∙ ap vacant c.deref.ensures.value) in
    extended-count c.args.limit c.args.slots.now.items c.extend.new.slots.items none c.extend.result c.extend.ensures.slot

pub returns-clause-put : goal.returns-clause-put
returns-clause-put c =
    let none : vacant c.args.slots.now.items ≡ None = sym (c.in_default.ensures.slot ∙ ap vacant c.deref.ensures.value) in
    extended-put c.args.limit c.args.slots.now.items c.extend.new.slots.items none c.extend.result c.extend.ensures.slot c.extend.ensures.slots

pub returns-clause-vacant : goal.returns-clause-vacant
returns-clause-vacant c =
    let none : vacant c.args.slots.now.items ≡ None = sym (c.in_default.ensures.slot ∙ ap vacant c.deref.ensures.value) in
    extended-vacant c.args.limit c.args.slots.now.items c.extend.new.slots.items none c.extend.result c.extend.ensures.slot c.extend.ensures.slots

pub returns-in-Some-clause-vacant : goal.returns-in-Some-clause-vacant
returns-in-Some-clause-vacant c =
    let found : vacant c.args.slots.now.items ≡ Some c.in-Some.slot = sym (c.in-Some.ensures.slot ∙ ap vacant c.deref.ensures.value) in
    pair_in-vacant c.args.slots.now.items c.in-Some.slot found

pub returns-clause-listed : goal.returns-clause-listed
returns-clause-listed c =
    let none : vacant c.args.slots.now.items ≡ None = sym (c.in_default.ensures.slot ∙ ap vacant c.deref.ensures.value) in
    let listed : IsListed c.reuse.new.free c.args.slots.now.items = rw c.deref.ensures.value at c.in_default.ensures.none in
    extended-listed c.args.limit c.args.slots.now.items c.extend.new.slots.items none c.reuse.new.free listed c.extend.result c.extend.ensures.slot c.extend.ensures.slots
