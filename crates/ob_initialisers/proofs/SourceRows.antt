-- The initialisers in braces, where the program keeps them in a vector.
use Rattle.std.proofs.Common.{◌≡◌, ℕ, List, [], ◌∷◌, Bool, length, refl, ap, ◌∙◌, arith}
use Rattle.std.specs.Prelude.{Vec}
use Rattle.std.specs.declared.alloc.Global.{Global}
use Rattle.ob_tree.specs.declared.expressions.Init as init
use Rattle.ob_tree.specs.declared.expressions.Init.{Init}
use Rattle.ob_tree.specs.declared.expressions.ExprNode.TheBlock as block
use Rattle.ob_tree.specs.declared.expressions.ExprNode.TheBlock.{Row_of-Init, end_of-Init, more_of-Init, items-the_row-Init, items_hidden-the_row-Init-1}
use Rattle.ob_tree.specs.ExpressionView.{init_row, init_tree}
use Rattle.ob_tree.specs.Trees.{InitTree, InitTrees}
use Rattle.ob_typed.specs.Initialisers.{text_count, text_length}
use Rattle.ob_initialisers.specs.Lists.{init_trees}

row_trees : (n : _) (row : Row_of-Init n) → init_row row ≡ init_trees (items-the_row-Init n row)
row_trees n end_of-Init = refl
row_trees n (more_of-Init i is) = ap (InitTrees.Item (init_tree i)) (row_trees _ is)

pub list_tree : (i : Init) (f : ℕ) (items : Vec Init Global) (comma : Bool) → i ≡ init.List f items comma →
    init_tree i ≡ InitTree.Braces f (init_trees items.items) comma
list_tree i f items comma h =
    ap init_tree h
    ∙ ap (λ is. InitTree.Braces f is comma) (row_trees _ (block.hidden-the_row-Init-1 items) ∙ ap init_trees (items_hidden-the_row-Init-1 items))

trees_counted : (is : List Init) → text_count (init_trees is) ≡ length is
trees_counted [] = refl
trees_counted (i ∷ is) = let h = trees_counted is in omega arith

-- the text of a list tells how many initialisers stand in it
pub list_length : (i : Init) (f : ℕ) (items : Vec Init Global) (comma : Bool) → i ≡ init.List f items comma → text_length (init_tree i) ≡ length items.items
list_length i f items comma h = ap text_length (list_tree i f items comma h) ∙ trees_counted items.items
