-- What the structures of a program are without their indexes.
use Rattle.ob_tree.specs.Types.{PlainStructs}
use Rattle.ob_tree.specs.StructsView.{plain_structs}
use Rattle.ob_members.specs.declared.structures.Structures.{Structures}

abbrev pub plain_structures : Structures → PlainStructs
plain_structures s = plain_structs s.rows
