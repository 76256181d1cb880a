-- The scalars of an array type are those of its elements.
use Rattle.std.proofs.Common.{◌≡◌, ℕ, ◌*◌, Option, Some, None, option_map, refl, arith}
use Rattle.ob_tree.specs.Types.{PlainType, PlainStructs}
use Rattle.ob_tree.specs.Sizes.{Layout, laid, layout, repeated, scalars}

of_repeated : (o : Option Layout) (n : ℕ) → (laid (option_map (λ l. repeated l n) o)).scalars ≡ (laid o).scalars * n
of_repeated None n = omega arith
of_repeated (Some l) n = refl

pub scalars_of_array : (s : PlainStructs) (t : PlainType) (n : ℕ) → scalars s (PlainType.Array t n) ≡ scalars s t * n
scalars_of_array s t n = of_repeated (layout s t) n
