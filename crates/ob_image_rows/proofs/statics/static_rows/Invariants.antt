use Rattle.std.proofs.Common.{◌≡◌, ◌++◌, drop, map}
use Rattle.ob_tree.specs.StructsView.{plain_structs}
use Rattle.ob_typed.specs.TypedView.{typed_object}
use Rattle.ob_lower.specs.Programs.{static_row}
use Rattle.ob_image_rows.proofs.statics.static_rows.Given as goal

abbrev pub invariant-loop-o : goal.invariant-loop-o
invariant-loop-o l = map (static_row (plain_structs l.t.structs)) (map typed_object l.t.statics.items)
    ≡ l.rows.items ++ map (static_row (plain_structs l.t.structs)) (drop l.o-index (map typed_object l.t.statics.items))
