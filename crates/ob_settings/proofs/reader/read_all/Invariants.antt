use Rattle.std.proofs.Common.{◌≡◌, ◌-◌, ◌+◌, ◌≤◌, drop, length, map}
use Rattle.std.specs.Prelude.{string_bytes}
use Rattle.ob_settings.specs.Reading.{nothing_read, reads}
use Rattle.ob_settings.proofs.reader.read_all.Given as goal

abbrev pub invariant-loop-i : goal.invariant-loop-i
invariant-loop-i l =
    record {
      within : l.i ≤ length l.words;
      reading : reads l.verb (l.i + 1) l.reader (drop l.i (map string_bytes l.words)) ≡ reads l.verb 1 nothing_read (map string_bytes l.words);
    }

abbrev pub decreases-loop-i : goal.decreases-loop-i
decreases-loop-i l = length l.words - l.i
