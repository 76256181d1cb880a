-- Types with a size (C99 6.2.5, 6.5.3.4). An array whose length its initialiser still has to tell has the
-- length 0 and no size yet.
use Rattle.std.specs.Prelude.{ℕ, zero, suc, Bool, true, false, ◌&&◌}
use Rattle.ob_tree.specs.Types.{PlainType, PlainStructs}
use Rattle.ob_tree.specs.Types.{PlainType as type}
use Rattle.ob_tree.specs.Sizes.{has_size, is_complete}

abbrev pub is_counted : ℕ → Bool
is_counted zero = false
is_counted (suc n) = true

abbrev pub has_length : PlainType → Bool
has_length (type.Array t n) = is_counted n
has_length _ = true

abbrev pub is_sized : PlainStructs → PlainType → Bool
is_sized structs t = has_length t && has_size structs t

-- a type that an object can have: it has a size, and not too many bytes
abbrev pub is_object_type : PlainStructs → PlainType → Bool
is_object_type structs t = has_length t && is_complete structs t
