use Rattle.std.proofs.Common.{◌≡◌, ◌++◌, drop}
use Rattle.ob_tree.specs.TypeView.{plain_types}
use Rattle.ob_typed.specs.TypedView.{typed_function}
use Rattle.ob_lower.specs.Homes.{homes, homes_from}
use Rattle.ob_homes.specs.HomesView.{plain_homes}
use Rattle.ob_homes.proofs.placing.home_list.Given as goal

-- the homes so far and those to come are all
abbrev pub invariant-loop-t : goal.invariant-loop-t
invariant-loop-t l = record {
  ordinal : l.v ≡ l.t-index;
  whole : homes (typed_function l.f) ≡ plain_homes l.list.items ++ homes_from (typed_function l.f) l.t-index l.next.word l.next.row (drop l.t-index (plain_types l.f.locals.items));
}
