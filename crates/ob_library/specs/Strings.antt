-- The bodies of the library's functions on strings.
use Rattle.std.specs.Prelude.{ℕ, pos, List, codes}
use Rattle.ob_tree.specs.declared.tokens.Sign.TheVariants as sign
use Rattle.ob_tree.specs.Trees.{ExprTree}
use Rattle.ob_tree.specs.Programs.{StmtTree, BlockTrees}
use Rattle.ob_tree.specs.Programs.BlockTrees.{NoItems, Declaration, Statement}
use Rattle.ob_library.specs.declared.types.Base.TheVariants as base
use Rattle.ob_library.specs.Nodes.{named, paren, index, binary, assign, cast, element, of_names, while_stmt, return_stmt, step, set_number, scan, variable}

abbrev pub strlen_items : BlockTrees
strlen_items =
    Declaration (variable base.Size 0 (codes "n"))
    (Statement (set_number (codes "n") (pos 0))
    (Statement (scan (codes "s") (codes "n"))
    (Statement (return_stmt (named (codes "n"))) NoItems)))

-- `while ((target = s[n])) n = n + 1;`
abbrev pub copying : (target : ExprTree) → StmtTree
copying e = while_stmt (paren (assign e (element (codes "s") (codes "n")))) (step (codes "n") sign.Plus (pos 1))

abbrev pub strcpy_items : BlockTrees
strcpy_items =
    Declaration (variable base.Size 0 (codes "n"))
    (Statement (set_number (codes "n") (pos 0))
    (Statement (copying (element (codes "d") (codes "n")))
    (Statement (return_stmt (named (codes "d"))) NoItems)))

-- `d[i + n]`
abbrev pub end_element : ExprTree
end_element = index (named (codes "d")) (of_names (codes "i") sign.Plus (codes "n"))

abbrev pub strcat_items : BlockTrees
strcat_items =
    Declaration (variable base.Size 0 (codes "i"))
    (Declaration (variable base.Size 0 (codes "n"))
    (Statement (set_number (codes "i") (pos 0))
    (Statement (scan (codes "d") (codes "i"))
    (Statement (set_number (codes "n") (pos 0))
    (Statement (copying end_element)
    (Statement (return_stmt (named (codes "d"))) NoItems))))))

-- `a[n] == b[n]`
abbrev pub same_element : ExprTree
same_element = binary sign.EqEq (element (codes "a") (codes "n")) (element (codes "b") (codes "n"))

-- `a[n] && a[n] == b[n]`
abbrev pub goes_on : ExprTree
goes_on = binary sign.AndAnd (element (codes "a") (codes "n")) same_element

-- `while (a[n] && a[n] == b[n]) n = n + 1;`
abbrev pub comparing : StmtTree
comparing = while_stmt goes_on (step (codes "n") sign.Plus (pos 1))

-- `(unsigned char) name[n]`
abbrev pub unsigned_element : (name : List ℕ) → ExprTree
unsigned_element x = cast base.UnsignedChar (element x (codes "n"))

-- `(unsigned char) a[n] - (unsigned char) b[n]`
abbrev pub difference : ExprTree
difference = binary sign.Minus (unsigned_element (codes "a")) (unsigned_element (codes "b"))

abbrev pub strcmp_items : BlockTrees
strcmp_items =
    Declaration (variable base.Size 0 (codes "n"))
    (Statement (set_number (codes "n") (pos 0))
    (Statement comparing
    (Statement (return_stmt difference) NoItems)))
