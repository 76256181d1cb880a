use Rattle.std.proofs.Common.{◌≡◌, ◌≤◌, length, take}
use Rattle.ob_typed.specs.Strings.{trimmed}
use Rattle.ob_consts.proofs.images.trimmed.Given as goal

abbrev pub invariant-loop-len : goal.invariant-loop-len
invariant-loop-len l = record {
  within : l.len ≤ length l.bytes.items;
  kept : trimmed (take l.len l.bytes.items) ≡ trimmed l.bytes.items;
}

abbrev pub decreases-loop-len : goal.decreases-loop-len
decreases-loop-len l = l.len
