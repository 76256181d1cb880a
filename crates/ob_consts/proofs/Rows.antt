-- The items of a list, where the program keeps them in a vector.
use Rattle.std.proofs.Common.{◌≡◌, ℕ, suc, ◌+◌, List, [], ◌∷◌, ◌++◌, Bool, true, refl, sym, ap, ◌∙◌}
use Rattle.std.specs.Prelude.{Vec, ◌&&◌}
use Rattle.std.specs.declared.alloc.Global.{Global}
use Rattle.std.specs.List.{list_all}
use Rattle.ob_tree.specs.Types.{PlainType, PlainStructs}
use Rattle.ob_tree.specs.Parts.{part}
use Rattle.ob_typed.specs.declared.statements.TInit as init
use Rattle.ob_typed.specs.declared.statements.TInit.{TInit, Row_of-TInit, end_of-TInit, more_of-TInit, items-the_row-TInit, items_hidden-the_row-TInit-0}
use Rattle.ob_typed.specs.declared.statements.TInit.TheBlock as block
use Rattle.ob_typed.specs.Images.{Piece, item_pieces, pieces}
use Rattle.ob_typed.specs.TypedView.{init_row, typed_init}
use Rattle.ob_consts.specs.ConstantItems.{are_constant_items, are_constants}
use Rattle.ob_consts.specs.Placing.{numbered, part_pieces}

row-pieces : (s : PlainStructs) (t : PlainType) (at i : ℕ) (n : _) (row : Row_of-TInit n) →
    item_pieces s t at i (init_row row) ≡ numbered (λ j x. part_pieces s at (part s t j) x) i (items-the_row-TInit n row)
row-pieces s t at i n end_of-TInit = refl
row-pieces s t at i n (more_of-TInit x xs) = ap (λ ps. part_pieces s at (part s t i) x ++ ps) (row-pieces s t at (i + 1) _ xs)

pub list-pieces : (s : PlainStructs) (t : PlainType) (at : ℕ) (x : TInit) (items : Vec TInit Global) → x ≡ init.List items →
    pieces s t at (typed_init x) ≡ numbered (λ j y. part_pieces s at (part s t j) y) 0 items.items
list-pieces s t at x items is =
    ap (λ y. pieces s t at (typed_init y)) is
    ∙ row-pieces s t at 0 _ (block.hidden-the_row-TInit-0 items)
    ∙ ap (numbered (λ j y. part_pieces s at (part s t j) y) 0) (items_hidden-the_row-TInit-0 items)

row-constants : (s : PlainStructs) (ts : List PlainType) (n : _) (row : Row_of-TInit n) →
    are_constant_items s ts (init_row row) ≡ list_all (λ x. are_constants s ts (typed_init x)) (items-the_row-TInit n row)
row-constants s ts n end_of-TInit = refl
row-constants s ts n (more_of-TInit x xs) = ap (λ b. are_constants s ts (typed_init x) && b) (row-constants s ts _ xs)

pub list-constants : (s : PlainStructs) (ts : List PlainType) (x : TInit) (items : Vec TInit Global) → x ≡ init.List items →
    are_constants s ts (typed_init x) ≡ list_all (λ y. are_constants s ts (typed_init y)) items.items
list-constants s ts x items is =
    ap (λ y. are_constants s ts (typed_init y)) is
    ∙ row-constants s ts _ (block.hidden-the_row-TInit-0 items)
    ∙ ap (list_all (λ y. are_constants s ts (typed_init y))) (items_hidden-the_row-TInit-0 items)
