-- The views of vectors with one item more, and of what is built from them.
use Rattle.std.proofs.Common.{◌≡◌, ◌≢◌, ℕ, zero, suc, ◌+◌, ◌<◌, List, [], ◌∷◌, ◌++◌, length, get_or, drop, map, Bool, true, false, ◌&&◌, Option, Some, None, refl, sym, ◌∙◌, ap, subst, arith}
use Rattle.std.specs.Prelude.{Vec}
use Rattle.std.proofs.lemmas.List.{at_drop_more}
use Rattle.std.specs.declared.alloc.Global.{Global}
use Rattle.ob_tree.specs.declared.tokens.TokenKind.{TokenKind}
use Rattle.ob_tree.specs.declared.expressions.ExprNode.TheBlock as block
use Rattle.ob_tree.specs.declared.expressions.ExprNode.TheBlock.{Row_of-Init, end_of-Init, more_of-Init, items-the_row-Init, items_hidden-the_row-Init-1, Dim-length-None', Dim-length-Some'}
use Rattle.ob_tree.specs.declared.expressions.Expr.{Expr}
use Rattle.ob_tree.specs.declared.expressions.Init as init
use Rattle.ob_tree.specs.declared.expressions.Init.{Init}
use Rattle.ob_tree.specs.declared.expressions.Dim.{Dim, Dim', out-Dim, is-Dim'}
use Rattle.ob_tree.specs.declared.expressions.ObjDecl.{ObjDecl, roll-ObjDecl, out-roll-ObjDecl, is-ObjDecl'}
use Rattle.ob_tree.specs.declared.programs.BlockItem as item
use Rattle.ob_tree.specs.declared.programs.BlockItem.{BlockItem}
use Rattle.ob_tree.specs.declared.programs.Local.{Local}
use Rattle.ob_tree.specs.declared.programs.Param.{Param}
use Rattle.ob_tree.specs.declared.programs.Params.{Params}
use Rattle.ob_tree.specs.declared.programs.FileDecl.{FileDecl}
use Rattle.ob_tree.specs.declared.programs.FileDecl.TheVariants as file
use Rattle.ob_tree.specs.Trees.{Mark, SpecTree, ObjTree, ObjTrees, DimTrees, InitTree, InitTrees}
use Rattle.ob_tree.specs.Programs.{BlockTrees}
use Rattle.ob_tree.specs.ExpressionView.{node_tree, obj_tree, obj_trees, held_init, held_length, dim_row, dim_trees, init_tree, init_row}
use Rattle.ob_tree.specs.ProgramValid.{is_void_alone}
use Rattle.ob_tree.specs.ProgramView.{stmt_node_tree, local_tree, param_tree, file_tree}
use Rattle.ob_tree.specs.ProgramStates as plain
use Rattle.ob_tree.specs.ExprStates.{add_obj}
use Rattle.ob_tree.specs.ProgramParts.{add_local, add_init, are_all_named, has_dims, has_lengths, has_items, is_first, is_tagged, objects}
use Rattle.ob_tree.proofs.Views.{dims-of, objs_pushed}
use Rattle.ob_declarations.specs.declared.state.State.{State}
use Rattle.ob_declarations.specs.Shifts.{Leads, Reaches, shifted}
use Rattle.ob_declarations.specs.View.{block_trees, init_trees}

pub reaches_leads : (m : Mark) (k : TokenKind) (o : Option State) (next : Option plain.State) → Reaches o next → Leads m k (shifted o) next
reaches_leads m k None next h = h
reaches_leads m k (Some s) next h = h

-- Initialisers.
row-inits : (n : _) (row : Row_of-Init n) → init_row row ≡ init_trees (items-the_row-Init n row)
row-inits n end_of-Init = refl
row-inits n (more_of-Init i is) = ap (InitTrees.Item (init_tree i)) (row-inits _ is)

pub list_made : (f : ℕ) (is : Vec Init Global) (comma : Bool) → init_tree (init.List f is comma) ≡ InitTree.Braces f (init_trees is.items) comma
list_made f is comma =
    ap (λ x. InitTree.Braces f x comma) (row-inits _ (block.hidden-the_row-Init-1 is) ∙ ap init_trees (items_hidden-the_row-Init-1 is))

pub initial_made : (n : ℕ) (name : List ℕ) (a : ℕ) (ds : Vec Dim Global) (i : Init)
    → obj_tree (roll-ObjDecl (record { stars = n; name = name; at = a; dims = ds; init = Some i })) ≡ ObjTree.Initial n name a (dim_trees ds.items) (init_tree i)
initial_made n name a ds i =
    let o = roll-ObjDecl (record { stars = n; name = name; at = a; dims = ds; init = Some i }) in
    ap obj_tree (is-ObjDecl' o)
    ∙ ap (λ r. held_init r.stars r.name r.at (dim_row (block.hidden-the_row-Dim-4 r.dims)) (block.back-ObjDecl-init r.init)) (out-roll-ObjDecl (record { stars = n; name = name; at = a; dims = ds; init = Some i }))
    ∙ ap (λ d. ObjTree.Initial n name a d (init_tree i)) (dims-of ds)

pub inits_pushed : (is : List Init) (i : Init) → init_trees (is ++ i ∷ []) ≡ add_init (init_trees is) (init_tree i)
inits_pushed [] i = refl
inits_pushed (x ∷ is) i = ap (InitTrees.Item (init_tree x)) (inits_pushed is i)

pub no_items : (is : List Init) → length is ≡ 0 → has_items (init_trees is) ≡ false
no_items [] h = refl
no_items (i ∷ is) h = absurd (omega arith)

pub some_items : (is : List Init) → length is ≢ 0 → has_items (init_trees is) ≡ true
some_items [] h = absurd (h refl)
some_items (i ∷ is) h = refl

-- Declarations.
pub locals_pushed : (is : List BlockItem) (l : Local) → block_trees (is ++ item.Local l ∷ []) ≡ add_local (block_trees is) (local_tree l)
locals_pushed [] l = refl
locals_pushed (item.Local x ∷ is) l = ap (BlockTrees.Declaration (local_tree x)) (locals_pushed is l)
locals_pushed (item.Stmt' f n s ∷ is) l = ap (BlockTrees.Statement (stmt_node_tree s f n)) (locals_pushed is l)

add-obj : (ds : List FileDecl) (o : ObjDecl) → add_obj (objects (map file_tree ds)) (obj_tree o) ≡ objects (map file_tree (ds ++ file.Object o ∷ []))
add-obj [] o = refl
add-obj (file.Object x ∷ ds) o = ap (ObjTrees.Declarator (obj_tree x)) (add-obj ds o)
add-obj (file.Function n name a ps ∷ ds) o = add-obj ds o

pub object_more : (ds : List FileDecl) (os : List ObjDecl) (o : ObjDecl) → obj_trees os ≡ objects (map file_tree ds)
    → obj_trees (os ++ o ∷ []) ≡ objects (map file_tree (ds ++ file.Object o ∷ []))
object_more ds os o h = objs_pushed os o ∙ ap (λ x. add_obj x (obj_tree o)) h ∙ add-obj ds o

pub function_more : (ds : List FileDecl) (n : ℕ) (name : List ℕ) (a : ℕ) (ps : Params)
    → objects (map file_tree (ds ++ file.Function n name a ps ∷ [])) ≡ objects (map file_tree ds)
function_more [] n name a ps = refl
function_more (file.Object x ∷ ds) n name a ps = ap (ObjTrees.Declarator (obj_tree x)) (function_more ds n name a ps)
function_more (file.Function m x b qs ∷ ds) n name a ps = function_more ds n name a ps

pub no_dims : (ds : List Dim) → length ds ≡ 0 → has_dims (dim_trees ds) ≡ false
no_dims [] h = refl
no_dims (d ∷ ds) h = absurd (omega arith)

pub some_dims : (ds : List Dim) → length ds ≢ 0 → has_dims (dim_trees ds) ≡ true
some_dims [] h = absurd (h refl)
some_dims (Dim' Dim-length-None' ∷ ds) h = refl
some_dims (Dim' (Dim-length-Some' f a l e) ∷ ds) h = refl

open-dims : (d : Dim) (ds : List Dim) → (out-Dim d).length ≡ None → has_lengths (dim_trees (d ∷ ds)) ≡ false
open-dims d ds h = ap (λ x. has_lengths (dim_trees (x ∷ ds))) (is-Dim' d) ∙ ap (λ o. has_lengths (held_length (block.back-Dim-length o) (dim_trees ds))) h

full-dims : (d : Dim) (ds : List Dim) (e : Expr) → (out-Dim d).length ≡ Some e → has_lengths (dim_trees (d ∷ ds)) ≡ true
full-dims d ds e h = ap (λ x. has_lengths (dim_trees (x ∷ ds))) (is-Dim' d) ∙ ap (λ o. has_lengths (held_length (block.back-Dim-length o) (dim_trees ds))) h

pub lengths_none : (ds : List Dim) → length ds ≡ 0 → has_lengths (dim_trees ds) ≡ true
lengths_none [] h = refl
lengths_none (d ∷ ds) h = absurd (omega arith)

pub first_open : (ds : List Dim) (d : Dim) → 0 < length ds → d ≡ get_or ds 0 d → (out-Dim d).length ≡ None → has_lengths (dim_trees ds) ≡ false
first_open [] d l e h = absurd (omega arith)
first_open (x ∷ ds) d l e h = open-dims x ds (subst (λ (y : Dim). (out-Dim y).length ≡ None) e h)

pub first_full : (ds : List Dim) (d : Dim) (x : Expr) → 0 < length ds → d ≡ get_or ds 0 d → (out-Dim d).length ≡ Some x → has_lengths (dim_trees ds) ≡ true
first_full [] d x l e h = absurd (omega arith)
first_full (y ∷ ds) d x l e h = full-dims y ds x (subst (λ (z : Dim). (out-Dim z).length ≡ Some x) e h)

pub no_names : (ds : List FileDecl) → length ds ≡ 0 → is_first (map file_tree ds) ≡ true
no_names [] h = refl
no_names (d ∷ ds) h = absurd (omega arith)

pub some_names : (ds : List FileDecl) → length ds ≢ 0 → is_first (map file_tree ds) ≡ false
some_names [] h = absurd (h refl)
some_names (d ∷ ds) h = refl

-- Parameters.
pub void_starred : (s : SpecTree) (n : ℕ) (name : Option (List ℕ)) (ds : DimTrees) → n ≢ 0 → is_void_alone s n name ds ≡ false
void_starred (SpecTree.Void f) zero name ds h = absurd (h refl)
void_starred (SpecTree.Void f) (suc n) name ds h = refl
void_starred (SpecTree.SizeT f) n name ds h = refl
void_starred (SpecTree.Integer f words) n name ds h = refl
void_starred (SpecTree.Tag f tag) n name ds h = refl
void_starred (SpecTree.Struct f tag ms) n name ds h = refl

pub void_named : (s : SpecTree) (n : ℕ) (name : Option (List ℕ)) (x : List ℕ) (ds : DimTrees) → name ≡ Some x → is_void_alone s n name ds ≡ false
void_named s n None x ds h = absurd cc
void_named (SpecTree.Void f) zero (Some y) x ds h = refl
void_named (SpecTree.Void f) (suc n) (Some y) x ds h = refl
void_named (SpecTree.SizeT f) n (Some y) x ds h = refl
void_named (SpecTree.Integer f words) n (Some y) x ds h = refl
void_named (SpecTree.Tag f tag) n (Some y) x ds h = refl
void_named (SpecTree.Struct f tag ms) n (Some y) x ds h = refl

has-dims : (f : ℕ) (ds : DimTrees) → has_dims ds ≡ true → is_void_alone (SpecTree.Void f) 0 None ds ≡ false
has-dims f DimTrees.NoDims h = absurd cc
has-dims f (DimTrees.Unsized ds) h = refl
has-dims f (DimTrees.Sized e ds) h = refl

pub void_brackets : (s : SpecTree) (n : ℕ) (name : Option (List ℕ)) (ds : DimTrees) → has_dims ds ≡ true → is_void_alone s n name ds ≡ false
void_brackets (SpecTree.Void f) zero None ds h = has-dims f ds h
void_brackets (SpecTree.Void f) zero (Some y) ds h = refl
void_brackets (SpecTree.Void f) (suc n) name ds h = refl
void_brackets (SpecTree.SizeT f) n name ds h = refl
void_brackets (SpecTree.Integer f words) n name ds h = refl
void_brackets (SpecTree.Tag f tag) n name ds h = refl
void_brackets (SpecTree.Struct f tag ms) n name ds h = refl

no-dims : (ds : DimTrees) → has_dims ds ≡ false → ds ≡ DimTrees.NoDims
no-dims DimTrees.NoDims h = refl
no-dims (DimTrees.Unsized ds) h = absurd cc
no-dims (DimTrees.Sized e ds) h = absurd cc

pub void_plain : (s : SpecTree) (n : ℕ) (name : Option (List ℕ)) (ds : DimTrees) → n ≡ 0 → name ≡ None → has_dims ds ≡ false
    → is_void_alone s n name ds ≡ is_void_alone s 0 None DimTrees.NoDims
void_plain s n name ds a b h = ap (λ m. is_void_alone s m name ds) a ∙ ap (λ x. is_void_alone s 0 x ds) b ∙ ap (is_void_alone s 0 None) (no-dims ds h)

-- a list of parameters from a place on
from-place : (xs : List Param) (i : ℕ) (x : Param) → i < length xs → x ≡ get_or xs i x
    → are_all_named (map param_tree (drop i xs)) ≡ (is_tagged x.name && are_all_named (map param_tree (drop (i + 1) xs)))
from-place xs i x l e =
    at_drop_more (λ ys. are_all_named (map param_tree ys)) xs i x l
    ∙ ap (λ (y : Param). is_tagged y.name && are_all_named (map param_tree (drop (i + 1) xs))) (sym e)

pub named_more : (xs : List Param) (i : ℕ) (x : Param) (t : List ℕ) → i < length xs → x ≡ get_or xs i x → x.name ≡ Some t
    → are_all_named (map param_tree (drop i xs)) ≡ are_all_named (map param_tree (drop (i + 1) xs))
named_more xs i x t l e h = from-place xs i x l e ∙ ap (λ n. is_tagged n && are_all_named (map param_tree (drop (i + 1) xs))) h

pub unnamed_more : (xs : List Param) (i : ℕ) (x : Param) → i < length xs → x ≡ get_or xs i x → x.name ≡ None → are_all_named (map param_tree (drop i xs)) ≡ false
unnamed_more xs i x l e h = from-place xs i x l e ∙ ap (λ n. is_tagged n && are_all_named (map param_tree (drop (i + 1) xs))) h
