use Rattle.std.proofs.Common.{◌≡◌, ◌++◌, drop}
use Rattle.ob_tree.specs.TypeView.{plain_types}
use Rattle.ob_lower.specs.Names.{variable_names}
use Rattle.ob_homes.specs.HomesView.{plain_homes}
use Rattle.ob_image_rows.proofs.names.push_variable_names.Given as goal

abbrev pub invariant-loop-name : goal.invariant-loop-name
invariant-loop-name l = record {
  ordinal : l.ordinal ≡ l.name-index;
  whole : l.fn.rows.items ++ variable_names l.holder 0 l.f.names.items (plain_types l.f.locals.items) (plain_homes l.h.list.items)
      ≡ l.rows.items ++ variable_names l.holder l.name-index (drop l.name-index l.f.names.items) (drop l.name-index (plain_types l.f.locals.items)) (drop l.name-index (plain_homes l.h.list.items));
}
