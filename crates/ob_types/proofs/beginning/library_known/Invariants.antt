use Rattle.std.proofs.Common.{◌≡◌, drop, map}
use Rattle.ob_tree.specs.ProgramView.{item_tree}
use Rattle.ob_typed.specs.Typing.{function_names, library_known}
use Rattle.ob_context.specs.KnownView.{stand_of}
use Rattle.ob_types.specs.FileView.{file_of, file_stand}
use Rattle.ob_types.proofs.beginning.library_known.Given as goal

abbrev pub invariant-loop-item : goal.invariant-loop-item
invariant-loop-item l = record {
  is :
      library_known l.fn.file.env.bodies (map item_tree l.items.items) (file_of l.fn.file)
      ≡ library_known l.fn.file.env.bodies (map item_tree (drop l.item-index l.items.items)) (file_of l.file);
  stand : stand_of l.file.body.known ≡ file_stand;
  defined : l.file.defined ≡ function_names (file_of l.file).functions;
  bodies : l.file.env.bodies ≡ l.fn.file.env.bodies;
}
