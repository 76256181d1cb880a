-- The functions of the library in C, in their order, with their names and trees.
use Rattle.std.specs.Prelude.{ℕ, List, [], ◌∷◌, codes}
use Rattle.ob_tree.specs.Programs.{BlockTrees, ParamTree, ItemTree}
use Rattle.ob_library.specs.declared.library.LibraryFunction.{LibraryFunction}
use Rattle.ob_library.specs.declared.library.LibraryFunction.TheVariants as f
use Rattle.ob_library.specs.declared.types.Base.{Base}
use Rattle.ob_library.specs.declared.types.Base.TheVariants as base
use Rattle.ob_library.specs.Nodes.{param, function}
use Rattle.ob_library.specs.Strings.{strlen_items, strcpy_items, strcat_items, strcmp_items}
use Rattle.ob_library.specs.Copies.{memset_items, memcpy_items}
use Rattle.ob_library.specs.Printing.{puts_items, print_u_items, print_d_items, print_s_items}
use Rattle.ob_library.specs.Numbers.{atoi_items}

abbrev pub library : List LibraryFunction
library =
    f.Strlen ∷ (f.Strcpy ∷ (f.Strcat ∷ (f.Strcmp ∷ (f.Memset ∷ (f.Memcpy ∷ (
    f.Puts ∷ (f.Atoi ∷ (f.PrintU ∷ (f.PrintD ∷ (f.PrintS ∷ []))))))))))

abbrev pub name_of : LibraryFunction → List ℕ
name_of f.Strlen = codes "strlen"
name_of f.Strcpy = codes "strcpy"
name_of f.Strcat = codes "strcat"
name_of f.Strcmp = codes "strcmp"
name_of f.Memset = codes "memset"
name_of f.Memcpy = codes "memcpy"
name_of f.Puts = codes "puts"
name_of f.Atoi = codes "atoi"
name_of f.PrintU = codes "__print_u"
name_of f.PrintD = codes "__print_d"
name_of f.PrintS = codes "__print_s"

-- the type of the result, and how many stars follow it
abbrev pub base_of : LibraryFunction → Base
base_of f.Strlen = base.Size
base_of f.Strcpy = base.Char
base_of f.Strcat = base.Char
base_of f.Strcmp = base.Int
base_of f.Memset = base.Void
base_of f.Memcpy = base.Void
base_of f.Puts = base.Int
base_of f.Atoi = base.Int
base_of f.PrintU = base.Int
base_of f.PrintD = base.Int
base_of f.PrintS = base.Int

abbrev pub stars_of : LibraryFunction → ℕ
stars_of f.Strlen = 0
stars_of f.Strcpy = 1
stars_of f.Strcat = 1
stars_of f.Strcmp = 0
stars_of f.Memset = 1
stars_of f.Memcpy = 1
stars_of f.Puts = 0
stars_of f.Atoi = 0
stars_of f.PrintU = 0
stars_of f.PrintD = 0
stars_of f.PrintS = 0

abbrev pub params_of : LibraryFunction → List ParamTree
params_of f.Strlen = param base.Char 1 (codes "s") ∷ []
params_of f.Strcpy = param base.Char 1 (codes "d") ∷ (param base.Char 1 (codes "s") ∷ [])
params_of f.Strcat = param base.Char 1 (codes "d") ∷ (param base.Char 1 (codes "s") ∷ [])
params_of f.Strcmp = param base.Char 1 (codes "a") ∷ (param base.Char 1 (codes "b") ∷ [])
params_of f.Memset = param base.Void 1 (codes "p") ∷ (param base.Int 0 (codes "c") ∷ (param base.Size 0 (codes "n") ∷ []))
params_of f.Memcpy = param base.Void 1 (codes "p") ∷ (param base.Void 1 (codes "q") ∷ (param base.Size 0 (codes "n") ∷ []))
params_of f.Puts = param base.Char 1 (codes "s") ∷ []
params_of f.Atoi = param base.Char 1 (codes "s") ∷ []
params_of f.PrintU = param base.UnsignedLong 0 (codes "v") ∷ (param base.UnsignedLong 0 (codes "b") ∷ [])
params_of f.PrintD = param base.Long 0 (codes "v") ∷ []
params_of f.PrintS = param base.Char 1 (codes "s") ∷ []

-- what stands in the body
abbrev pub items_of : LibraryFunction → BlockTrees
items_of f.Strlen = strlen_items
items_of f.Strcpy = strcpy_items
items_of f.Strcat = strcat_items
items_of f.Strcmp = strcmp_items
items_of f.Memset = memset_items
items_of f.Memcpy = memcpy_items
items_of f.Puts = puts_items
items_of f.Atoi = atoi_items
items_of f.PrintU = print_u_items
items_of f.PrintD = print_d_items
items_of f.PrintS = print_s_items

unfoldable pub tree_of : LibraryFunction → ItemTree
tree_of f = function (base_of f) (stars_of f) (name_of f) (params_of f) (items_of f)
