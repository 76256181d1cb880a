-- The body of the library's function that reads a number.
use Rattle.std.specs.Prelude.{ℤ, pos, codes}
use Rattle.ob_tree.specs.declared.tokens.Sign.TheVariants as sign
use Rattle.ob_tree.specs.Trees.{ExprTree}
use Rattle.ob_tree.specs.Programs.{StmtTree, BlockTrees}
use Rattle.ob_tree.specs.Programs.BlockTrees.{NoItems, Declaration, Statement}
use Rattle.ob_library.specs.declared.types.Base.TheVariants as base
use Rattle.ob_library.specs.Nodes.{named, number, paren, binary, conditional, with_number, element_with, set_to, expr_stmt, block, while_stmt, if_stmt, if_else_stmt, return_stmt, step, set_number, variable}

-- `s[i] >= low && s[i] <= high`
abbrev pub between : (low high : ℤ) → ExprTree
between l h = binary sign.AndAnd (element_with (codes "s") (codes "i") sign.Ge l) (element_with (codes "s") (codes "i") sign.Le h)

-- `s[i] == 32 || (s[i] >= 9 && s[i] <= 13)`
abbrev pub is_space : ExprTree
is_space = binary sign.OrOr (element_with (codes "s") (codes "i") sign.EqEq (pos 32)) (paren (between (pos 9) (pos 13)))

abbrev pub spaces_skipped : StmtTree
spaces_skipped = while_stmt is_space (step (codes "i") sign.Plus (pos 1))

-- `{g = 1; i = i + 1;}`
abbrev pub minus_taken : StmtTree
minus_taken = block (Statement (set_number (codes "g") (pos 1)) (Statement (step (codes "i") sign.Plus (pos 1)) NoItems))

abbrev pub plus_taken : StmtTree
plus_taken = if_stmt (element_with (codes "s") (codes "i") sign.EqEq (pos 43)) (step (codes "i") sign.Plus (pos 1))

abbrev pub sign_taken : StmtTree
sign_taken = if_else_stmt (element_with (codes "s") (codes "i") sign.EqEq (pos 45)) minus_taken plus_taken

-- `n * 10 + (s[i] - 48)`
abbrev pub with_digit : ExprTree
with_digit =
    binary sign.Plus (with_number (codes "n") sign.Star (pos 10)) (paren (element_with (codes "s") (codes "i") sign.Minus (pos 48)))

-- `{n = n * 10 + (s[i] - 48); i = i + 1;}`
abbrev pub digit_taken : StmtTree
digit_taken = block (Statement (expr_stmt (set_to (codes "n") with_digit)) (Statement (step (codes "i") sign.Plus (pos 1)) NoItems))

abbrev pub digits_taken : StmtTree
digits_taken = while_stmt (between (pos 48) (pos 57)) digit_taken

-- `0 - n`
abbrev pub negated : ExprTree
negated = binary sign.Minus (number (pos 0)) (named (codes "n"))

-- `g ? 0 - n : n`
abbrev pub signed_number : ExprTree
signed_number = conditional (named (codes "g")) negated (named (codes "n"))

abbrev pub atoi_items : BlockTrees
atoi_items =
    Declaration (variable base.Int 0 (codes "n"))
    (Declaration (variable base.Int 0 (codes "g"))
    (Declaration (variable base.Size 0 (codes "i"))
    (Statement (set_number (codes "i") (pos 0))
    (Statement spaces_skipped
    (Statement (set_number (codes "g") (pos 0))
    (Statement sign_taken
    (Statement (set_number (codes "n") (pos 0))
    (Statement digits_taken
    (Statement (return_stmt signed_number) NoItems)))))))))
