-- What the structure types of a program are without their vectors and what is kept beside them.
use Rattle.std.specs.Prelude.{map}
use Rattle.ob_tree.specs.declared.structs.Structs.{Structs}
use Rattle.ob_tree.specs.Types.{PlainStructs}
use Rattle.ob_tree.specs.StructLayouts.{plain_row}

abbrev pub plain_structs : Structs → PlainStructs
plain_structs s = map plain_row s.rows.items
