use Rattle.std.proofs.Common.{◌≡◌, ◌+◌, ◌≤◌, drop}
use Rattle.ob_lexer.specs.Cursors.{moved}
use Rattle.ob_lexer.proofs.cursor.Cursor.past.Given as goal

abbrev pub invariant-loop-byte : goal.invariant-loop-byte
invariant-loop-byte l = record {
  moved : moved l.place (drop l.byte-index l.bytes) ≡ moved l.fn.self l.bytes;
  at : l.place.at ≡ l.fn.self.at + l.byte-index;
  line : l.place.line ≤ l.place.at + 1;
  column : l.place.column ≤ l.place.at + 1;
}
