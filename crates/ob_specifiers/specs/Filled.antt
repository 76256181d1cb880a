-- The structures with the members of one that has none, where it isn't too great with them (C99 6.7.2.1).
use Rattle.std.specs.Prelude.{ℕ, Ok, List, if◌then◌else◌}
use Rattle.ob_tree.specs.declared.faults.TypeKind.TheVariants as kind
use Rattle.ob_tree.specs.Types.{PlainMember, PlainStructs, with_members}
use Rattle.ob_tree.specs.Types.{PlainType as type}
use Rattle.ob_tree.specs.Sizes.{is_complete}
use Rattle.ob_typed.specs.Faults.{Answer, fault}

abbrev pub filled : PlainStructs → (number at : ℕ) → List PlainMember → Answer PlainStructs
filled structs n at ms =
    if is_complete (with_members structs n ms) (type.Struct n) then Ok (with_members structs n ms) else fault kind.Constant at
