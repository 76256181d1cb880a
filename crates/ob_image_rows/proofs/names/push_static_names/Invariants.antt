use Rattle.std.proofs.Common.{◌≡◌, ◌+◌, ◌++◌, drop, map}
use Rattle.ob_typed.specs.TypedView.{typed_object}
use Rattle.ob_lower.specs.Names.{static_names}
use Rattle.ob_image_rows.proofs.names.push_static_names.Given as goal

abbrev pub invariant-loop-o : goal.invariant-loop-o
invariant-loop-o l = record {
  object : l.object ≡ l.o-index + 1;
  whole : l.fn.rows.items ++ static_names 1 (map typed_object l.t.statics.items) ≡ l.rows.items ++ static_names l.object (drop l.o-index (map typed_object l.t.statics.items));
}
