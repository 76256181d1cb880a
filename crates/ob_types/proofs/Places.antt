-- Where a name is declared first, one declarator after another.
use Rattle.std.proofs.Common.{◌≡◌, ℕ, suc, ◌+◌, ◌<◌, Option, Some, None, List, [], ◌∷◌, drop, get_or, length, map, refl, sym, ap, subst, ◌∙◌, add-one}
use Rattle.ob_tree.specs.declared.programs.FileDecl.{FileDecl}
use Rattle.ob_tree.specs.Programs.{FileTree}
use Rattle.ob_tree.specs.Programs.{FileTree as file}
use Rattle.ob_tree.specs.ProgramView.{file_tree}
use Rattle.ob_tree.specs.Trees.{ObjTree as declarator}
use Rattle.ob_typed.specs.Typing.{place_in_files}
use Rattle.ob_functions.proofs.Items.{item_at}
use Rattle.ob_types.specs.FileView.{or_else}

place_more : (name : List ℕ) (d : FileTree) (ds : List FileTree) (after : Option ℕ) → place_in_files name (d ∷ ds) after ≡ place_in_files name (d ∷ []) (place_in_files name ds after)
place_more name (file.Function stars x at ps) ds after = refl
place_more name (file.Object (declarator.Bare stars x at dims)) ds after = refl
place_more name (file.Object (declarator.Initial stars x at dims i)) ds after = refl

-- from a declarator on, the first place is that in this one, or in those behind it
abbrev pub Here : (name : List ℕ) → FileDecl → Option ℕ → Type 0
Here name d place = (after : Option ℕ) → place_in_files name (file_tree d ∷ []) after ≡ or_else place after

abbrev pub From : (name : List ℕ) → List FileDecl → (i : ℕ) → Type 0
From name xs i = (after : Option ℕ) → place_in_files name (map file_tree xs) after ≡ place_in_files name (map file_tree (drop i xs)) after

place_turn : (name : List ℕ) (xs ys : List FileDecl) (i : ℕ) (x : FileDecl) (place : Option ℕ) → From name xs i → ys ≡ xs → i < length ys → x ≡ get_or ys i x → Here name x place →
    (after : Option ℕ) → place_in_files name (map file_tree xs) after ≡ or_else place (place_in_files name (map file_tree (drop (suc i) xs)) after)
place_turn name xs ys i x place before same h is here after =
    let first : drop i xs ≡ x ∷ drop (suc i) xs = subst (λ zs. drop i zs ≡ x ∷ drop (suc i) zs) same (item_at ys i x h is) in
    before after ∙ ap (λ zs. place_in_files name (map file_tree zs) after) first ∙ place_more name (file_tree x) (map file_tree (drop (suc i) xs)) after
    ∙ here (place_in_files name (map file_tree (drop (suc i) xs)) after)

pub place_found : (name : List ℕ) (xs ys : List FileDecl) (i : ℕ) (x : FileDecl) (n : ℕ) (place : Option ℕ) → From name xs i → ys ≡ xs → i < length ys → x ≡ get_or ys i x → Here name x place → place ≡ Some n →
    (after : Option ℕ) → place_in_files name (map file_tree xs) after ≡ or_else (Some n) after
place_found name xs ys i x n place before same h is here some after =
    place_turn name xs ys i x place before same h is here after ∙ ap (λ o. or_else o (place_in_files name (map file_tree (drop (suc i) xs)) after)) some

pub place_on : (name : List ℕ) (xs ys : List FileDecl) (i : ℕ) (x : FileDecl) (place : Option ℕ) → From name xs i → ys ≡ xs → i < length ys → x ≡ get_or ys i x → Here name x place → place ≡ None →
    From name xs (i + 1)
place_on name xs ys i x place before same h is here none after =
    place_turn name xs ys i x place before same h is here after ∙ ap (λ o. or_else o (place_in_files name (map file_tree (drop (suc i) xs)) after)) none
    ∙ ap (λ n. place_in_files name (map file_tree (drop n xs)) after) (sym (add-one i))
