-- The program with the library functions that it needs.
use Rattle.std.specs.Prelude.{ℕ, zero, suc, List, [], ◌∷◌, ◌++◌, Bool, false, not, ◌&&◌, ◌||◌, if◌then◌else◌}
use Rattle.std.specs.List.{list_any, flat_map}
use Rattle.ob_tree.specs.Programs.{ItemTree, ProgramTree}
use Rattle.ob_library.specs.declared.library.LibraryFunction.{LibraryFunction}
use Rattle.ob_library.specs.Library.{library, name_of, tree_of}
use Rattle.ob_prelude.specs.Calls.{item_calls, program_calls, program_defines}

-- Whether the function is appended for calls that so many steps lead to: the program doesn't define it, and the program
-- calls it, or a library function does that is appended for calls that one step less leads to.
unfoldable pub wanted_within : (steps : ℕ) → ProgramTree → LibraryFunction → Bool
wanted_within zero p f = false
wanted_within (suc k) p f =
    not (program_defines (name_of f) p)
    && (program_calls (name_of f) p || list_any (λ g. item_calls (name_of f) (tree_of g) && wanted_within k p g) library)

-- whether the program itself asks for the function: it calls the function and doesn't define it
abbrev pub called_alone : ProgramTree → LibraryFunction → Bool
called_alone p f = not (program_defines (name_of f) p) && program_calls (name_of f) p

-- Whether the function is appended. A chain of calls through the eleven functions of the library has at most eleven steps,
-- so these are the least functions of which the program calls some, and they the others.
abbrev pub wanted : ProgramTree → LibraryFunction → Bool
wanted p f = wanted_within 11 p f

-- the function's tree where it is appended, else nothing
unfoldable pub share : ProgramTree → LibraryFunction → List ItemTree
share p f = if wanted p f then tree_of f ∷ [] else []

-- the trees of the functions that are appended, in their order
abbrev pub complete : ProgramTree → ProgramTree
complete p = p ++ flat_map (share p) library
