use Rattle.std.proofs.Common.{rules, ◌≡◌, ◌++◌, OnOk, List, arith, subst, sym}
use Rattle.std.proofs.lemmas.Grind.{common_steps}
use Rattle.std.proofs.lemmas.List.{append_assoc}
use Rattle.std.proofs.lemmas.Result.{IfOk-equal}
use Rattle.ob_tree.specs.declared.tokens.TokenKind.{TokenKind}
use Rattle.ob_tree.proofs.ProgramRows.{block_spelled}
use Rattle.ob_tree.proofs.program_spelling.+statements.Goals as goal

pub put_stmt-returns-in_ok-put_block-in-Block : goal.put_stmt-returns-in_ok-put_block-in-Block
put_stmt-returns-in_ok-put_block-in-Block t c =
    let e = block_spelled c.args.stmt.now c.in-Block.items c.in-Block.is in
    let P = λ (u : List TokenKind). OnOk c.put_sign-in-Block.result (c.put_sign-in-Block.new.out.items ≡ c.args.out.now.items ++ u) in
    subst P (sym e) (first_of (search rules, grind (arith, common_steps), search (rules, IfOk-equal, append_assoc)))
