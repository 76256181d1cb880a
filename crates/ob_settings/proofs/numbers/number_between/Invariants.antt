use Rattle.std.proofs.Common.{◌≡◌, ◌≤◌, drop}
use Rattle.std.specs.List.{list_all}
use Rattle.ob_settings.specs.Numbers.{is_digit, value_from}
use Rattle.ob_settings.proofs.numbers.number_between.Given as goal

abbrev pub invariant-loop-byte : goal.invariant-loop-byte
invariant-loop-byte l =
    record {
      small : l.value ≤ l.most;
      value : value_from l.value (drop l.byte-index l.word) ≡ value_from 0 l.word;
      digits : list_all is_digit (drop l.byte-index l.word) ≡ list_all is_digit l.word;
    }
