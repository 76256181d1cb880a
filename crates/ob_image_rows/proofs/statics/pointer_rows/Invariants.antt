use Rattle.std.proofs.Common.{◌≡◌, ◌+◌, ◌++◌, drop, map}
use Rattle.ob_typed.specs.TypedView.{typed_object}
use Rattle.ob_lower.specs.Programs.{pointer_rows}
use Rattle.ob_image_rows.proofs.statics.pointer_rows.Given as goal

abbrev pub invariant-loop-o : goal.invariant-loop-o
invariant-loop-o l = record {
  holder : l.holder ≡ l.o-index + 1;
  whole : pointer_rows 1 (map typed_object l.t.statics.items) ≡ l.rows.items ++ pointer_rows l.holder (drop l.o-index (map typed_object l.t.statics.items));
}
