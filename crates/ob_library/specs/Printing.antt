-- The bodies of the library's functions that print.
use Rattle.std.specs.Prelude.{pos, codes}
use Rattle.ob_tree.specs.declared.tokens.Sign.TheVariants as sign
use Rattle.ob_tree.specs.Trees.{ExprTree}
use Rattle.ob_tree.specs.Programs.{StmtTree, BlockTrees}
use Rattle.ob_tree.specs.Programs.BlockTrees.{NoItems, Declaration, Statement}
use Rattle.ob_library.specs.declared.types.Base.TheVariants as base
use Rattle.ob_library.specs.Nodes.{named, number, string, index, binary, assign, call_one, call_two, cast, element, of_names, with_number, set_to, expr_stmt, block, while_stmt, do_stmt, if_stmt, return_stmt, step, set_number, set_name, variable, array}

-- `putchar(value);`
abbrev pub put_char : ExprTree → StmtTree
put_char e = expr_stmt (call_one (codes "putchar") e)

abbrev pub printing_block : StmtTree
printing_block = block (Statement (put_char (element (codes "s") (codes "n"))) (Statement (step (codes "n") sign.Plus (pos 1)) NoItems))

-- `while (s[n]) {putchar(s[n]); n = n + 1;}`
abbrev pub printing : StmtTree
printing =
    while_stmt (element (codes "s") (codes "n")) printing_block

abbrev pub puts_items : BlockTrees
puts_items =
    Declaration (variable base.Size 0 (codes "n"))
    (Statement (set_number (codes "n") (pos 0))
    (Statement printing
    (Statement (put_char (number (pos 10)))
    (Statement (return_stmt (number (pos 0))) NoItems))))

-- `"0123456789abcdef"[v % b]`
abbrev pub digit : ExprTree
digit = index (string (codes "0123456789abcdef")) (of_names (codes "v") sign.Percent (codes "b"))

-- `d[n] = "0123456789abcdef"[v % b];`
abbrev pub next_digit : StmtTree
next_digit = expr_stmt (assign (element (codes "d") (codes "n")) digit)

abbrev pub digit_kept : StmtTree
digit_kept =
    block (Statement next_digit
    (Statement (step (codes "n") sign.Plus (pos 1))
    (Statement (expr_stmt (set_to (codes "v") (of_names (codes "v") sign.Slash (codes "b")))) NoItems)))

-- `do {..} while (v != 0);`
abbrev pub digits_kept : StmtTree
digits_kept =
    do_stmt digit_kept
    (with_number (codes "v") sign.NotEq (pos 0))

-- `{k = k - 1; putchar(d[k]);}`
abbrev pub digit_printed : StmtTree
digit_printed = block (Statement (step (codes "k") sign.Minus (pos 1)) (Statement (put_char (element (codes "d") (codes "k"))) NoItems))

abbrev pub digits_printed : StmtTree
digits_printed = while_stmt (with_number (codes "k") sign.Gt (pos 0)) digit_printed

abbrev pub print_u_items : BlockTrees
print_u_items =
    Declaration (array base.Char (codes "d") (pos 24))
    (Declaration (variable base.Int 0 (codes "n"))
    (Declaration (variable base.Int 0 (codes "k"))
    (Statement (set_number (codes "n") (pos 0))
    (Statement digits_kept
    (Statement (set_name (codes "k") (codes "n"))
    (Statement digits_printed
    (Statement (return_stmt (named (codes "n"))) NoItems)))))))

-- `__print_u(value, 10)`
abbrev pub in_decimal : ExprTree → ExprTree
in_decimal e = call_two (codes "__print_u") e (number (pos 10))

-- `0 - (unsigned long) v`
abbrev pub magnitude : ExprTree
magnitude = binary sign.Minus (number (pos 0)) (cast base.UnsignedLong (named (codes "v")))

-- `__print_u(0 - (unsigned long) v, 10) + 1`
abbrev pub negative : ExprTree
negative = binary sign.Plus (in_decimal magnitude) (number (pos 1))

-- `{putchar(45); return ..;}`
abbrev pub negative_block : StmtTree
negative_block = block (Statement (put_char (number (pos 45))) (Statement (return_stmt negative) NoItems))

abbrev pub if_negative : StmtTree
if_negative = if_stmt (with_number (codes "v") sign.Lt (pos 0)) negative_block

abbrev pub print_d_items : BlockTrees
print_d_items =
    Statement if_negative
    (Statement (return_stmt (in_decimal (named (codes "v")))) NoItems)

abbrev pub print_s_items : BlockTrees
print_s_items =
    Declaration (variable base.Int 0 (codes "n"))
    (Statement (set_number (codes "n") (pos 0))
    (Statement printing
    (Statement (return_stmt (named (codes "n"))) NoItems)))
