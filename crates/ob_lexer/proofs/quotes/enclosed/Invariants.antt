use Rattle.std.proofs.Common.{◌≡◌, drop, false}
use Rattle.ob_lexer.specs.Scan.{enclosed_from}
use Rattle.ob_lexer.proofs.quotes.enclosed.Given as goal

abbrev pub invariant-loop-i : goal.invariant-loop-i
invariant-loop-i l = enclosed_from l.i l.quote l.escaped (drop l.i l.rest) ≡ enclosed_from 0 l.quote false l.rest
