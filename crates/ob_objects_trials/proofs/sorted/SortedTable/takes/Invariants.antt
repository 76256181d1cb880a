use Rattle.std.proofs.Common.{take}
use Rattle.std.specs.List.{All}
use Rattle.ob_objects.specs.Objects.{AreApart}
use Rattle.ob_objects_trials.proofs.sorted.SortedTable.takes.Given as goal

abbrev pub invariant-loop-f : goal.invariant-loop-f
invariant-loop-f l = All (AreApart l.e) (take l.f-index l.f-items)
