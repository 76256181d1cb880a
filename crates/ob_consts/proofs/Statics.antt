-- The types of static objects.
use Rattle.std.proofs.Common.{◌≡◌, ℕ, zero, suc, Option, Some, None, List, [], ◌∷◌, map, refl}
use Rattle.std.specs.Prelude.{option_map, slice_get}
use Rattle.ob_tree.specs.Types.{PlainType}
use Rattle.ob_tree.specs.TypeView.{plain_type}
use Rattle.ob_typed.specs.declared.statics.TStatic.{TStatic}
use Rattle.ob_typed.specs.Initialisers.{static_types}
use Rattle.ob_typed.specs.TypedView.{typed_object}

pub type_of_static : (os : List TStatic) (n : ℕ) → slice_get (static_types (map typed_object os)) n ≡ option_map (λ (o : TStatic). plain_type o.ty) (slice_get os n)
type_of_static [] n = refl
type_of_static (o ∷ os) zero = refl
type_of_static (o ∷ os) (suc n) = type_of_static os n
