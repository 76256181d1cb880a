-- What the types of the program are without their boxes and vectors.
use Rattle.std.specs.Prelude.{List, map}
use Rattle.ob_tree.specs.declared.types.CType as from
use Rattle.ob_tree.specs.declared.types.CType.{CType}
use Rattle.ob_tree.specs.declared.types.MemberRow.{MemberRow}
use Rattle.ob_tree.specs.declared.types.StructRow.{StructRow}
use Rattle.ob_tree.specs.Types.{PlainType, PlainMember, PlainStruct}

abbrev pub plain_type : CType → PlainType
plain_type from.Void = PlainType.Void
plain_type (from.Int t) = PlainType.Int t
plain_type (from.Pointer' p t) = PlainType.Pointer (plain_type t)
plain_type (from.Array' p t n) = PlainType.Array (plain_type t) n
plain_type (from.Struct n) = PlainType.Struct n

abbrev pub plain_types : List CType → List PlainType
plain_types ts = map plain_type ts

abbrev pub plain_member : MemberRow → PlainMember
plain_member m = record { name = m.name; ty = plain_type m.ty }

abbrev pub plain_members : List MemberRow → List PlainMember
plain_members ms = map plain_member ms

abbrev pub plain_struct : StructRow → PlainStruct
plain_struct r = record { complete = r.complete; members = plain_members r.members.items }
