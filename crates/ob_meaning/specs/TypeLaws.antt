-- The scalars of a type that an object can have are as many as its layout counts.
use Rattle.std.specs.Prelude.{◌≡◌, length}
use Rattle.ob_tree.specs.Sizes.{IsComplete, scalars}
use Rattle.ob_tree.specs.Types.{PlainType, PlainStructs}
use Rattle.ob_meaning.specs.Scalars.{scalars_of}

abbrev pub ScalarsAreCounted : Type 0
ScalarsAreCounted =
    (structs : PlainStructs) (t : PlainType) →
    IsComplete structs t →
    length (scalars_of structs t) ≡ scalars structs t
