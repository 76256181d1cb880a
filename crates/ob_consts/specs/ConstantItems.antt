-- Whether each item of a static object's initialiser is a constant (C99 6.7.8): a number, a string or an address. A
-- structure that is copied is none.
use Rattle.std.specs.Prelude.{Bool, true, false, ◌&&◌, List}
use Rattle.ob_tree.specs.Types.{PlainType, PlainStructs}
use Rattle.ob_typed.specs.TypedTree.{TypedInit, TypedInits}
use Rattle.ob_typed.specs.TypedTree.{TypedInit as init, TypedInits as inits}
use Rattle.ob_typed.specs.AddressConstants.{is_static_value}

-- the static objects that addresses name are of these types, in order of number
abbrev mutual
  pub are_constants : PlainStructs → (types : List PlainType) → TypedInit → Bool
  are_constants structs types (init.Value e) = is_static_value structs types e
  are_constants structs types (init.Chars bytes) = true
  are_constants structs types (init.Items is) = are_constant_items structs types is
  are_constants structs types (init.Copy p) = false

  pub are_constant_items : PlainStructs → (types : List PlainType) → TypedInits → Bool
  are_constant_items structs types inits.NoItems = true
  are_constant_items structs types (inits.Item x xs) = are_constants structs types x && are_constant_items structs types xs
