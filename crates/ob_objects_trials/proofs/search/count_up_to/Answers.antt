use Rattle.std.proofs.Common.{◌+◌, ◌-◌, ◌/◌, ◌<◌, ℕ, length, arith}
use Rattle.ob_objects_trials.proofs.Order.{bases_up_to, no_entry}
use Rattle.ob_objects_trials.proofs.search.count_up_to.Goals as goal

pub loop-low-preserved-then-entries-middle : goal.loop-low-preserved-then-entries-middle
loop-low-preserved-then-entries-middle c =
    let middle : ℕ = c.loop-low.low + (c.loop-low.high - c.loop-low.low) / 2 in
    let within : middle < length c.args.entries.now = omega (arith, c.loop-low.invariant.within) in
    record {
      order = omega arith;
      within = c.loop-low.invariant.within;
      before = λ k d below.
          (let up = bases_up_to c.args.entries.now d no_entry k middle c.requires (omega arith) within in omega (arith, up, c.if-entries-middle.true));
      after = c.loop-low.invariant.after;
    }

pub loop-low-preserved : goal.loop-low-preserved
loop-low-preserved c =
    let middle : ℕ = c.loop-low.low + (c.loop-low.high - c.loop-low.low) / 2 in
    record {
      order = omega arith;
      within = omega (arith, c.loop-low.invariant.within);
      before = c.loop-low.invariant.before;
      after = λ k d above below.
          (let up = bases_up_to c.args.entries.now no_entry d middle k c.requires above below in omega (arith, up, c.if-entries-middle.false));
    }
