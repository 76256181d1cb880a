-- The items of a typed list, where the program keeps them in a vector.
use Rattle.std.proofs.Common.{◌≡◌, List, [], ◌∷◌, length, map, refl, ap, ◌∙◌, arith}
use Rattle.std.specs.Prelude.{Vec}
use Rattle.std.specs.declared.alloc.Global.{Global}
use Rattle.ob_typed.specs.declared.statements.TInit as init
use Rattle.ob_typed.specs.declared.statements.TInit.{TInit}
use Rattle.ob_typed.specs.declared.statements.TInit.TheBlock as block
use Rattle.ob_typed.specs.declared.statements.TInit.TheBlock.{Row_of-TInit, end_of-TInit, more_of-TInit, items-the_row-TInit, items_hidden-the_row-TInit-0}
use Rattle.ob_typed.specs.Initialisers.{init_list, item_count, told_length}
use Rattle.ob_typed.specs.TypedTree.{TypedInit, TypedInits}
use Rattle.ob_typed.specs.TypedView.{init_row, typed_init}

row_items : (n : _) (row : Row_of-TInit n) → init_row row ≡ init_list (map typed_init (items-the_row-TInit n row))
row_items n end_of-TInit = refl
row_items n (more_of-TInit x xs) = ap (TypedInits.Item (typed_init x)) (row_items _ xs)

pub list_items : (items : Vec TInit Global) → typed_init (init.List items) ≡ TypedInit.Items (init_list (map typed_init items.items))
list_items items =
    ap TypedInit.Items (row_items _ (block.hidden-the_row-TInit-0 items) ∙ ap (λ xs. init_list (map typed_init xs)) (items_hidden-the_row-TInit-0 items))

items_counted : (xs : List TInit) → item_count (init_list (map typed_init xs)) ≡ length xs
items_counted [] = refl
items_counted (x ∷ xs) = let h = items_counted xs in omega arith

-- a list tells how many items it has
pub list_told : (x : TInit) (items : Vec TInit Global) → x ≡ init.List items → told_length (typed_init x) ≡ length items.items
list_told x items h = ap (λ y. told_length (typed_init y)) h ∙ ap told_length (list_items items) ∙ items_counted items.items
