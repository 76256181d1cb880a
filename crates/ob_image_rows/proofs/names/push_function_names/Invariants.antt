use Rattle.std.proofs.Common.{◌≡◌, ◌+◌, ◌++◌, drop, map}
use Rattle.ob_typed.specs.TypedView.{typed_function}
use Rattle.ob_lower.specs.Names.{function_names}
use Rattle.ob_image_rows.proofs.names.push_function_names.Given as goal

abbrev pub invariant-loop-f : goal.invariant-loop-f
invariant-loop-f l = record {
  holder : l.holder ≡ l.f-index + 1;
  whole : l.fn.rows.items ++ function_names 1 (map typed_function l.t.functions.items) ≡ l.rows.items ++ function_names l.holder (drop l.f-index (map typed_function l.t.functions.items));
}
