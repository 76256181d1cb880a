use Rattle.std.proofs.Common.{◌-◌, arith, sym}
use Rattle.ob_objects_trials.proofs.Order.{entry_at-last, entry_at-none, no_entry}
use Rattle.ob_objects_trials.proofs.search.named.Goals as goal

pub returns-then-count-eq0 : goal.returns-then-count-eq0
returns-then-count-eq0 c = sym (entry_at-none c.args.entries.now c.args.address c.count_up_to-count.result no_entry c.requires c.count_up_to-count.ensures (λ some. absurd (omega arith)))

pub returns-then-address-entry : goal.returns-then-address-entry
returns-then-address-entry c = sym (entry_at-last c.args.entries.now c.args.address c.count_up_to-count.result no_entry c.requires c.count_up_to-count.ensures (omega arith) (omega (arith, c.if-address-entry.true)))

pub returns-else-address-entry : goal.returns-else-address-entry
returns-else-address-entry c =
    let base = c.count_up_to-count.ensures.before (c.count_up_to-count.result - 1) no_entry (omega arith) in
    sym (entry_at-none c.args.entries.now c.args.address c.count_up_to-count.result no_entry c.requires c.count_up_to-count.ensures (λ some. omega (arith, base, c.if-address-entry.false)))
