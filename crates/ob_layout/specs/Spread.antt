-- An array type as the type of its innermost elements, and how many there are.
use Rattle.std.specs.Prelude.{Bool, true, false}
use Rattle.ob_tree.specs.Types.{PlainType}
use Rattle.ob_tree.specs.Sizes.{Layout, repeated}

-- the type of the innermost elements of an array of arrays; any other type itself
abbrev pub innermost : PlainType → PlainType
innermost (PlainType.Array t n) = innermost t
innermost t = t

-- the layout of a type, from that of its innermost elements
abbrev pub spread : PlainType → Layout → Layout
spread (PlainType.Array t n) l = repeated (spread t l) n
spread t l = l

abbrev pub is_array : PlainType → Bool
is_array (PlainType.Array t n) = true
is_array t = false
