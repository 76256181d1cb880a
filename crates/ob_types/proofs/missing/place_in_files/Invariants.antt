use Rattle.std.proofs.Common.{◌≡◌, ℕ, Option, drop, map}
use Rattle.ob_tree.specs.ProgramView.{file_tree}
use Rattle.ob_typed.specs.Typing.{place_in_files}
use Rattle.ob_types.proofs.missing.place_in_files.Given as goal

abbrev pub invariant-loop-d : goal.invariant-loop-d
invariant-loop-d l =
    (after : Option ℕ) → place_in_files l.name (map file_tree l.ds.items) after ≡ place_in_files l.name (map file_tree (drop l.d-index l.ds.items)) after
