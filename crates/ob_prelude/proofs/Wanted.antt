-- Which functions are appended: those that the program asks for, and `__print_u` also where `__print_d` is.
use Rattle.std.proofs.Common.{◌≡◌, ◌≢◌, List, [], ◌∷◌, ◌++◌, Bool, false, ◌||◌, ◌&&◌, map, refl, ap, ◌∙◌}
use Rattle.std.specs.Prelude.{not, codes}
use Rattle.ob_tree.specs.declared.programs.Item.{Item}
use Rattle.ob_tree.specs.Programs.{ProgramTree}
use Rattle.ob_tree.specs.ProgramView.{item_tree}
use Rattle.ob_library.specs.declared.library.LibraryFunction.{LibraryFunction}
use Rattle.ob_library.specs.declared.library.LibraryFunction.TheVariants as f
use Rattle.ob_library.specs.Library.{name_of, tree_of}
use Rattle.ob_prelude.specs.Calls.{program_calls, program_defines}
use Rattle.ob_prelude.specs.Completion.{wanted_within, wanted, called_alone}

pub or-false : (b : Bool) → (b || false) ≡ b
or-false false = refl
or-false Bool.true = refl

called-or-none : (p : ProgramTree) (g : LibraryFunction) → (not (program_defines (name_of g) p) && (program_calls (name_of g) p || false)) ≡ called_alone p g
called-or-none p g = ap (λ b. not (program_defines (name_of g) p) && b) (or-false (program_calls (name_of g) p))

pub print_u_wanted : (p : ProgramTree)
    → wanted p f.PrintU ≡ (not (program_defines (codes "__print_u") p) && (program_calls (codes "__print_u") p || called_alone p f.PrintD))
unfolding wanted_within tree_of
print_u_wanted p =
    ap (λ b. not (program_defines (codes "__print_u") p) && (program_calls (codes "__print_u") p || b))
    (or-false (not (program_defines (codes "__print_d") p) && (program_calls (codes "__print_d") p || false)) ∙ called-or-none p f.PrintD)

pub other_wanted : (p : ProgramTree) (g : LibraryFunction) → g ≢ f.PrintU → wanted p g ≡ called_alone p g
unfolding wanted_within tree_of
other_wanted p f.Strlen n = called-or-none p f.Strlen
other_wanted p f.Strcpy n = called-or-none p f.Strcpy
other_wanted p f.Strcat n = called-or-none p f.Strcat
other_wanted p f.Strcmp n = called-or-none p f.Strcmp
other_wanted p f.Memset n = called-or-none p f.Memset
other_wanted p f.Memcpy n = called-or-none p f.Memcpy
other_wanted p f.Puts n = called-or-none p f.Puts
other_wanted p f.Atoi n = called-or-none p f.Atoi
other_wanted p f.PrintU n = absurd (n refl)
other_wanted p f.PrintD n = called-or-none p f.PrintD
other_wanted p f.PrintS n = called-or-none p f.PrintS

pub items_joined : (xs ys : List Item) → map item_tree (xs ++ ys) ≡ map item_tree xs ++ map item_tree ys
items_joined [] ys = refl
items_joined (x ∷ xs) ys = ap (λ zs. item_tree x ∷ zs) (items_joined xs ys)
