-- The type of a member that is known by its offset and its index. These serve the proof.
use Rattle.std.specs.Prelude.{ℕ, Option, Some, None, List, option_map, slice_get}
use Rattle.ob_tree.specs.Types.{PlainType, PlainMember}
use Rattle.ob_tree.specs.Sizes.{MemberPlace}

abbrev pub type_at : List PlainMember → (index : ℕ) → Option PlainType
type_at ms i = option_map (λ (m : PlainMember). m.ty) (slice_get ms i)

abbrev pub placed_member : List PlainMember → Option (ℕ × ℕ) → Option MemberPlace
placed_member ms None = None
placed_member ms (Some p) = option_map (λ t. record { offset = p.0; index = p.1; ty = t }) (type_at ms p.1)
