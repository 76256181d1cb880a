-- What a static object holds at the start (C99 6.7.8): the bytes of its initialiser's numbers, the lowest
-- first, and the pointers in it. Bytes that no item gives are 0.
use Rattle.std.specs.Prelude.{ℕ, zero, suc, ◌+◌, ◌-◌, ℤ, unsigned_abs, Option, Some, None, List, [], ◌∷◌, ◌++◌, length}
use Rattle.ob_words.specs.declared.types.IntType.{IntType}
use Rattle.ob_words.specs.Words.{word}
use Rattle.ob_words.specs.Fields.{low_bytes}
use Rattle.ob_tree.specs.Types.{PlainType, PlainStructs}
use Rattle.ob_tree.specs.Types.{PlainType as type}
use Rattle.ob_tree.specs.Sizes.{int_size}
use Rattle.ob_tree.specs.Parts.{Part, part}
use Rattle.ob_typed.specs.declared.statics.StaticPointer.{StaticPointer}
use Rattle.ob_typed.specs.TypedTree.{TypedExpr, TypedNode, TypedInit, TypedInits, PlainImage}
use Rattle.ob_typed.specs.TypedTree.{TypedExpr as expr, TypedNode as node, TypedInit as init, TypedInits as inits}
use Rattle.ob_typed.specs.AddressConstants.{Address, address}
use Rattle.ob_typed.specs.ConstantValues.{constant}
use Rattle.ob_typed.specs.Strings.{trimmed}

-- bytes that stand at an offset, or a pointer at one
pub data Piece : Type 0 where
  Bytes : (at : ℕ) → (bytes : List ℕ) → Piece
  Pointer : (at target offset : ℕ) → Piece

abbrev pub number_piece : (at : ℕ) → IntType → Option ℤ → List Piece
number_piece at k None = []
number_piece at k (Some z) = Piece.Bytes at (low_bytes (int_size k) (word z)) ∷ []

abbrev pub address_piece : (at : ℕ) → Option Address → List Piece
address_piece at None = []
address_piece at (Some a) = Piece.Pointer at a.target (unsigned_abs a.offset) ∷ []

abbrev pub pointer_piece : (at : ℕ) → TypedNode → List Piece
pointer_piece at (node.Lean l) = address_piece at (address l)
pointer_piece at _ = []

abbrev pub value_piece : (at : ℕ) → TypedExpr → List Piece
value_piece at (expr.Typed line (type.Int k) n) = number_piece at k (constant (expr.Typed line (type.Int k) n))
value_piece at (expr.Typed line t n) = pointer_piece at n

abbrev pub offset_of : Option Part → ℕ
offset_of None = 0
offset_of (Some p) = p.offset

abbrev pub type_of_part : Option Part → PlainType
type_of_part None = type.Void
type_of_part (Some p) = p.ty

abbrev mutual
  -- the pieces of an initialiser of a part of this type, in order of offset
  pub pieces : PlainStructs → PlainType → (at : ℕ) → TypedInit → List Piece
  pieces structs t at (init.Value e) = value_piece at e
  pieces structs t at (init.Chars bytes) = Piece.Bytes at bytes ∷ []
  pieces structs t at (init.Items is) = item_pieces structs t at 0 is
  pieces structs t at (init.Copy p) = []

  -- those of the items from part i on
  pub item_pieces : PlainStructs → PlainType → (at i : ℕ) → TypedInits → List Piece
  item_pieces structs t at i inits.NoItems = []
  item_pieces structs t at i (inits.Item x xs) =
      pieces structs (type_of_part (part structs t i)) (at + offset_of (part structs t i)) x ++ item_pieces structs t at (i + 1) xs

abbrev pub zeros : ℕ → List ℕ
zeros zero = []
zeros (suc n) = 0 ∷ zeros n

-- bytes put behind those before them
abbrev pub placed_bytes : (before : List ℕ) → List Piece → List ℕ
placed_bytes bs [] = bs
placed_bytes bs (Piece.Bytes at cs ∷ ps) = placed_bytes (bs ++ (zeros (at - length bs) ++ cs)) ps
placed_bytes bs (Piece.Pointer at target offset ∷ ps) = placed_bytes bs ps

abbrev pub placed_pointers : List Piece → List StaticPointer
placed_pointers [] = []
placed_pointers (Piece.Bytes at cs ∷ ps) = placed_pointers ps
placed_pointers (Piece.Pointer at target offset ∷ ps) = record { at = at; target = target; offset = offset } ∷ placed_pointers ps

abbrev pub image_of_pieces : List Piece → PlainImage
image_of_pieces ps = record { bytes = trimmed (placed_bytes [] ps); pointers = placed_pointers ps }

abbrev pub image : PlainStructs → PlainType → TypedInit → PlainImage
image structs t x = image_of_pieces (pieces structs t 0 x)

-- without an initialiser all bytes are 0
abbrev pub no_image : PlainImage
no_image = record { bytes = []; pointers = [] }
