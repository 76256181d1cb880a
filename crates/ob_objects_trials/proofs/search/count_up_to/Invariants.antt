use Rattle.std.proofs.Common.{◌-◌, ℕ, ◌<◌, ◌≤◌, length, get_or}
use Rattle.ob_model.specs.declared.objects.Entry.{Entry}
use Rattle.ob_objects_trials.proofs.search.count_up_to.Given as goal

abbrev pub invariant-loop-low : goal.invariant-loop-low
invariant-loop-low l = record {
  order : l.low ≤ l.high;
  within : l.high ≤ length l.entries;
  before : (k : ℕ) (d : Entry) → k < l.low → (get_or l.entries k d).base ≤ l.address;
  after : (k : ℕ) (d : Entry) → l.high ≤ k → k < length l.entries → l.address < (get_or l.entries k d).base;
}

abbrev pub decreases-loop-low : goal.decreases-loop-low
decreases-loop-low l = l.high - l.low
