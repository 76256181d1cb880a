use Rattle.std.proofs.Common.{◌≡◌, ◌+◌, ◌%◌, ◌<◌, take}
use Rattle.std.specs.Prelude.{sum}
use Rattle.ob_sample.proofs.count_sink.sum_of.Given as goal

abbrev pub invariant-loop-byte : goal.invariant-loop-byte
invariant-loop-byte l = record { total : l.total ≡ (l.before + sum (take l.byte-index l.piece)) % 65536; below : l.total < 65536 }
