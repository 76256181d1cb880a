use Rattle.std.proofs.Common.{◌≡◌, ◌++◌, drop}
use Rattle.ob_tree.specs.StructsView.{plain_structs}
use Rattle.ob_tree.specs.TypeView.{plain_types}
use Rattle.ob_code.specs.Frames.{words_end}
use Rattle.ob_lower.specs.Functions.{rows_from}
use Rattle.ob_homes.specs.HomesView.{plain_homes}
use Rattle.ob_image_rows.proofs.functions.local_rows.Given as goal

-- the rows so far and those to come are all
abbrev pub invariant-loop-t : goal.invariant-loop-t
invariant-loop-t l = record {
  ordinal : l.ordinal ≡ l.t-index;
  whole : rows_from (plain_structs l.s) 0 (words_end l.words) (plain_types l.locals) (plain_homes l.h.list.items)
      ≡ l.rows.items ++ rows_from (plain_structs l.s) l.t-index l.place (drop l.t-index (plain_types l.locals)) (drop l.t-index (plain_homes l.h.list.items));
}
