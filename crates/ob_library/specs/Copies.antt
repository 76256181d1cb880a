-- The bodies of the library's functions on bytes.
use Rattle.std.specs.Prelude.{pos, codes}
use Rattle.ob_tree.specs.declared.tokens.Sign.TheVariants as sign
use Rattle.ob_tree.specs.Trees.{ExprTree}
use Rattle.ob_tree.specs.Programs.{StmtTree, BlockTrees}
use Rattle.ob_tree.specs.Programs.BlockTrees.{NoItems, Declaration, Statement}
use Rattle.ob_library.specs.declared.types.Base.TheVariants as base
use Rattle.ob_library.specs.Nodes.{named, number, assign, element, of_names, set_to, moved, expr_stmt, for_stmt, return_stmt, set_name, variable}

-- `d[i] = value;`
abbrev pub filled : (value : ExprTree) → StmtTree
filled e = expr_stmt (assign (element (codes "d") (codes "i")) e)

-- `i = 0`
abbrev pub start : ExprTree
start = set_to (codes "i") (number (pos 0))

-- `for (i = 0; i < n; i = i + 1) d[i] = value;`
abbrev pub filling : (value : ExprTree) → StmtTree
filling e =
    for_stmt start (of_names (codes "i") sign.Lt (codes "n")) (moved (codes "i") sign.Plus (pos 1)) (filled e)

abbrev pub memset_items : BlockTrees
memset_items =
    Declaration (variable base.Char 1 (codes "d"))
    (Declaration (variable base.Size 0 (codes "i"))
    (Statement (set_name (codes "d") (codes "p"))
    (Statement (filling (named (codes "c")))
    (Statement (return_stmt (named (codes "p"))) NoItems))))

abbrev pub memcpy_items : BlockTrees
memcpy_items =
    Declaration (variable base.Char 1 (codes "d"))
    (Declaration (variable base.Char 1 (codes "s"))
    (Declaration (variable base.Size 0 (codes "i"))
    (Statement (set_name (codes "d") (codes "p"))
    (Statement (set_name (codes "s") (codes "q"))
    (Statement (filling (element (codes "s") (codes "i")))
    (Statement (return_stmt (named (codes "p"))) NoItems))))))
