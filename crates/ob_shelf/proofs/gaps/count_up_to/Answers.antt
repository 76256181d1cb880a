use Rattle.std.proofs.Common.{◌+◌, ◌-◌, ◌/◌, ◌<◌, ℕ, length, arith}
use Rattle.ob_shelf.proofs.Order.{places_up_to}
use Rattle.ob_shelf.specs.Blocks.{no_block}
use Rattle.ob_shelf.proofs.gaps.count_up_to.Goals as goal

pub loop-low-preserved-then-from-place : goal.loop-low-preserved-then-from-place
loop-low-preserved-then-from-place c =
    let middle : ℕ = c.loop-low.low + (c.loop-low.high - c.loop-low.low) / 2 in
    let within : middle < length c.args.blocks.now = omega (arith, c.loop-low.invariant.within) in
    record {
      order = omega arith;
      within = c.loop-low.invariant.within;
      before = λ k d below.
          (let up = places_up_to c.args.blocks.now d no_block k middle c.requires (omega arith) within in omega (arith, up, c.if-from-place.true));
      after = c.loop-low.invariant.after;
    }

pub loop-low-preserved : goal.loop-low-preserved
loop-low-preserved c =
    let middle : ℕ = c.loop-low.low + (c.loop-low.high - c.loop-low.low) / 2 in
    record {
      order = omega arith;
      within = omega (arith, c.loop-low.invariant.within);
      before = c.loop-low.invariant.before;
      after = λ k d above below.
          (let up = places_up_to c.args.blocks.now no_block d middle k c.requires above below in omega (arith, up, c.if-from-place.false));
    }
