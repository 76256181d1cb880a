use Rattle.std.proofs.Common.{◌≡◌, drop, map}
use Rattle.ob_tree.specs.ProgramView.{file_tree}
use Rattle.ob_tree.specs.TypeView.{plain_type}
use Rattle.ob_typed.specs.Typing.{check_files, function_names}
use Rattle.ob_context.specs.KnownView.{stand_of}
use Rattle.ob_types.specs.FileView.{file_of, file_stand}
use Rattle.ob_types.proofs.declarations.check_files.Given as goal

abbrev pub invariant-loop-d : goal.invariant-loop-d
invariant-loop-d l = record {
  is :
      check_files l.fn.file.env.bodies l.line (plain_type l.t) (map file_tree l.ds.items) (file_of l.fn.file)
      ≡ check_files l.fn.file.env.bodies l.line (plain_type l.t) (map file_tree (drop l.d-index l.ds.items)) (file_of l.file);
  stand : stand_of l.file.body.known ≡ file_stand;
  defined : l.file.defined ≡ function_names (file_of l.file).functions;
  bodies : l.file.env.bodies ≡ l.fn.file.env.bodies;
}
