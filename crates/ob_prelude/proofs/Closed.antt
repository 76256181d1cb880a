-- A completed program defines each function of the library that it calls.
use Rattle.std.proofs.Common.{◌≡◌, List, [], ◌∷◌, Bool, true, false, not, ◌||◌, ◌&&◌, refl, sym, ap, ◌∙◌}
use Rattle.std.specs.Prelude.{if◌then◌else◌, IsTrue}
use Rattle.std.specs.List.{list_any, flat_map}
use Rattle.std.proofs.lemmas.List.Folds.{list_any-append}
use Rattle.ob_tree.specs.Programs.{ItemTree, ProgramTree}
use Rattle.ob_library.specs.declared.library.LibraryFunction.{LibraryFunction}
use Rattle.ob_library.specs.declared.library.LibraryFunction.TheVariants as f
use Rattle.ob_library.specs.Library.{library, name_of, tree_of}
use Rattle.ob_prelude.specs.Calls.{item_calls, item_defines, program_calls, program_defines}
use Rattle.ob_prelude.specs.Completion.{wanted_within, wanted, share, complete}
use Rattle.ob_prelude.proofs.Wanted.{or-false}

-- some tree of the appended ones passes the test
abbrev appended : (ItemTree → Bool) → ProgramTree → List LibraryFunction → Bool
appended test p gs = list_any (λ g. test (tree_of g) && wanted p g) gs

one-share : (test : ItemTree → Bool) (t : ItemTree) (b : Bool) → list_any test (if b then t ∷ [] else []) ≡ (test t && b)
one-share test t true = or-false (test t) ∙ sym (and-true (test t))
  where
    and-true : (c : Bool) → (c && true) ≡ c
    and-true true = refl
    and-true false = refl
one-share test t false = sym (and-false (test t))
  where
    and-false : (c : Bool) → (c && false) ≡ false
    and-false true = refl
    and-false false = refl

any-shares : (test : ItemTree → Bool) (p : ProgramTree) (gs : List LibraryFunction) → list_any test (flat_map (share p) gs) ≡ appended test p gs
unfolding share
any-shares test p [] = refl
any-shares test p (g ∷ gs) =
    list_any-append test (share p g) (flat_map (share p) gs)
    ∙ ap (λ b. b || list_any test (flat_map (share p) gs)) (one-share test (tree_of g) (wanted p g))
    ∙ ap (λ b. (test (tree_of g) && wanted p g) || b) (any-shares test p gs)

any-complete : (test : ItemTree → Bool) (p : ProgramTree) → list_any test (complete p) ≡ (list_any test p || appended test p library)
any-complete test p =
    list_any-append test p (flat_map (share p) library) ∙ ap (λ b. list_any test p || b) (any-shares test p library)

pub needed : (p : ProgramTree) (g : LibraryFunction)
    → wanted p g ≡ (not (program_defines (name_of g) p) && (program_calls (name_of g) p || appended (item_calls (name_of g)) p library))
unfolding wanted_within tree_of
needed p f.Strlen = refl
needed p _ = refl

-- what is appended for a name is the function of the name
own : (p : ProgramTree) (g : LibraryFunction) → IsTrue (wanted p g) → IsTrue (appended (item_defines (name_of g)) p library)
unfolding tree_of
own p f.Strlen h = ap (λ b. b || false) h
own p _ h = ap (λ b. b || false) h

by-cases : (p : ProgramTree) (g : LibraryFunction) (d c : Bool) → program_defines (name_of g) p ≡ d → wanted p g ≡ (not d && c) → IsTrue c
    → IsTrue (program_defines (name_of g) p || appended (item_defines (name_of g)) p library)
by-cases p g true c e w h = ap (λ b. b || appended (item_defines (name_of g)) p library) e
by-cases p g false c e w h = ap (λ b. b || appended (item_defines (name_of g)) p library) e ∙ own p g (w ∙ h)

pub defined : (p : ProgramTree) (g : LibraryFunction) → IsTrue (program_calls (name_of g) (complete p)) → IsTrue (program_defines (name_of g) (complete p))
defined p g h =
    any-complete (item_defines (name_of g)) p
    ∙ by-cases p g (program_defines (name_of g) p) (program_calls (name_of g) p || appended (item_calls (name_of g)) p library) refl (needed p g)
    (sym (any-complete (item_calls (name_of g)) p) ∙ h)
