use Rattle.std.proofs.Common.{◌≡◌, ◌++◌, map, take}
use Rattle.ob_lower.specs.Programs.{pointer_row}
use Rattle.ob_image_rows.proofs.statics.push_pointers.Given as goal

abbrev pub invariant-loop-p : goal.invariant-loop-p
invariant-loop-p l = l.rows.items ≡ l.fn.rows.items ++ map (pointer_row l.holder) (take l.p-index l.pointers)
