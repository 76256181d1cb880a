use Rattle.std.proofs.Common.{◌≡◌, ◌<◌, ◌^◌, drop}
use Rattle.ob_tree.specs.Constants.{number_from}
use Rattle.ob_lexer.proofs.numbers.number.Given as goal

abbrev pub invariant-loop-digit : goal.invariant-loop-digit
invariant-loop-digit l = record {
  spelled : number_from l.base l.value (drop l.digit-index l.digits) ≡ number_from l.base 0 l.digits;
  fits : l.value < 2 ^ 64;
}
