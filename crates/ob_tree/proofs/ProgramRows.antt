-- What declarations, parameters and blocks spell, where the program keeps their lists in vectors.
use Rattle.std.proofs.Common.{◌≡◌, List, [], ◌∷◌, ◌++◌, map, refl, sym, ap, ◌∙◌}
use Rattle.std.specs.Prelude.{Vec}
use Rattle.std.specs.declared.alloc.Global.{Global}
use Rattle.std.specs.List.{flat_map}
use Rattle.std.proofs.lemmas.List.{append_assoc}
use Rattle.ob_tree.specs.declared.tokens.TokenKind.{TokenKind}
use Rattle.ob_tree.specs.declared.tokens.TokenKind.TheVariants as kind
use Rattle.ob_tree.specs.declared.tokens.Sign.TheVariants as sign
use Rattle.ob_tree.specs.declared.expressions.ObjDecl.{ObjDecl}
use Rattle.ob_tree.specs.declared.expressions.Dim.{Dim, Dim'}
use Rattle.ob_tree.specs.declared.expressions.ExprNode.TheBlock.{Dim-length-None', Dim-length-Some'}
use Rattle.ob_tree.specs.declared.programs.BlockItem as item
use Rattle.ob_tree.specs.declared.programs.BlockItem.{BlockItem}
use Rattle.ob_tree.specs.declared.programs.BlockItem.TheBlock as block
use Rattle.ob_tree.specs.declared.programs.BlockItem.TheBlock.{Row_of-BlockItem, end_of-BlockItem, more_of-BlockItem, items-the_row-BlockItem, items_hidden-the_row-BlockItem-0}
use Rattle.ob_tree.specs.declared.programs.Stmt.{Stmt}
use Rattle.ob_tree.specs.declared.programs.StmtNode as node
use Rattle.ob_tree.specs.Spelling.{spell, spell_objs, spell_more_objs, spell_obj, spell_dims, listed, more_listed}
use Rattle.ob_tree.specs.ProgramSpelling.{spell_local, spell_stmt, spell_block}
use Rattle.ob_tree.specs.ExpressionView.{node_tree, obj_tree, obj_trees, dim_trees, one_dim}
use Rattle.ob_tree.specs.ProgramView.{stmt_tree, stmt_node_tree, block_row, one_item, local_tree}

more_listed_map : {A B : Type 0} (f : B → List TokenKind) (g : A → B) (xs : List A) → more_listed f (map g xs) ≡ more_listed (λ x. f (g x)) xs
more_listed_map f g [] = refl
more_listed_map f g (x ∷ xs) = ap (λ ks. kind.Sign sign.Comma ∷ (f (g x) ++ ks)) (more_listed_map f g xs)

pub listed_map : {A B : Type 0} (f : B → List TokenKind) (g : A → B) (xs : List A) → listed f (map g xs) ≡ listed (λ x. f (g x)) xs
listed_map f g [] = refl
listed_map f g (x ∷ xs) = ap (λ ks. f (g x) ++ ks) (more_listed_map f g xs)

pub flat_map_map : {A B : Type 0} (f : B → List TokenKind) (g : A → B) (xs : List A) → flat_map f (map g xs) ≡ flat_map (λ x. f (g x)) xs
flat_map_map f g [] = refl
flat_map_map f g (x ∷ xs) = ap (λ ks. f (g x) ++ ks) (flat_map_map f g xs)

more_obj_trees : (xs : List ObjDecl) → spell_more_objs (obj_trees xs) ≡ more_listed (λ o. spell_obj (obj_tree o)) xs
more_obj_trees [] = refl
more_obj_trees (o ∷ os) = ap (λ ks. kind.Sign sign.Comma ∷ (spell_obj (obj_tree o) ++ ks)) (more_obj_trees os)

pub obj_trees_spelled : (xs : List ObjDecl) → spell_objs (obj_trees xs) ≡ listed (λ o. spell_obj (obj_tree o)) xs
obj_trees_spelled [] = refl
obj_trees_spelled (o ∷ os) = ap (λ ks. spell_obj (obj_tree o) ++ ks) (more_obj_trees os)

pub dim_trees_spelled : (xs : List Dim) → spell_dims (dim_trees xs) ≡ flat_map (λ d. spell_dims (one_dim d)) xs
dim_trees_spelled [] = refl
dim_trees_spelled (Dim' Dim-length-None' ∷ ds) =
    ap (λ ks. kind.Sign sign.OpenBracket ∷ (kind.Sign sign.CloseBracket ∷ ks)) (dim_trees_spelled ds)
dim_trees_spelled (Dim' (Dim-length-Some' f a l e) ∷ ds) =
    ap (λ ks. kind.Sign sign.OpenBracket ∷ (spell (node_tree e f a l) ++ kind.Sign sign.CloseBracket ∷ ks)) (dim_trees_spelled ds)
    ∙ ap (λ ks. kind.Sign sign.OpenBracket ∷ ks) (sym (append_assoc (spell (node_tree e f a l)) (kind.Sign sign.CloseBracket ∷ []) (flat_map (λ d. spell_dims (one_dim d)) ds)))

item_first : (i : BlockItem) (n : _) (row : Row_of-BlockItem n) → spell_block (block_row (more_of-BlockItem i row)) ≡ spell_block (one_item i) ++ spell_block (block_row row)
item_first (item.Local l) n row = sym (append_assoc (spell_local (local_tree l)) [] (spell_block (block_row row)))
item_first (item.Stmt' f l s) n row = sym (append_assoc (spell_stmt (stmt_node_tree s f l)) [] (spell_block (block_row row)))

items : (n : _) (row : Row_of-BlockItem n) → spell_block (block_row row) ≡ flat_map (λ i. spell_block (one_item i)) (items-the_row-BlockItem n row)
items n end_of-BlockItem = refl
items n (more_of-BlockItem i is) = item_first i _ is ∙ ap (λ ks. spell_block (one_item i) ++ ks) (items _ is)

pub block_spelled : (s : Stmt) (is : Vec BlockItem Global) → s.node ≡ node.Block is →
    spell_stmt (stmt_tree s) ≡ kind.Sign sign.OpenBrace ∷ (flat_map (λ i. spell_block (one_item i)) is.items ++ kind.Sign sign.CloseBrace ∷ [])
block_spelled s is h =
    ap (λ n. spell_stmt (stmt_node_tree n s.first s.line)) h
    ∙ ap (λ ks. kind.Sign sign.OpenBrace ∷ (ks ++ kind.Sign sign.CloseBrace ∷ []))
    (items _ (block.hidden-the_row-BlockItem-0 is) ∙ ap (flat_map (λ i. spell_block (one_item i))) (items_hidden-the_row-BlockItem-0 is))

pub ruleset mapped_lists = (listed_map, flat_map_map, dim_trees_spelled, append_assoc)
