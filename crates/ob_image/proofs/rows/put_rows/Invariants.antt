use Rattle.std.proofs.Common.{◌≡◌, ◌++◌, length, take}
use Rattle.std.specs.List.{flat_map, AllByRecursion}
use Rattle.ob_words.specs.Fields.{low_bytes}
use Rattle.ob_image.specs.Rules.{IsTyped}
use Rattle.ob_image.proofs.rows.put_rows.Given as goal

abbrev pub invariant-loop-row : goal.invariant-loop-row
invariant-loop-row g l =
    (l.out.items ≡ l.fn.out.items ++ (low_bytes 4 (length l.rows) ++ flat_map g.T.Row.spelling (take l.row-index l.rows)))
    × AllByRecursion (IsTyped g.T.Row.rule g.T.Row.valid) (take l.row-index l.rows)
