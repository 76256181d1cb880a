use Rattle.std.proofs.Common.{rules, ◌≡◌, Bool, arith, subst, sym}
use Rattle.std.proofs.lemmas.Grind.{common_steps}
use Rattle.ob_prelude.proofs.CallRows.{block-called}
use Rattle.ob_prelude.proofs.program_calls.+calls_in_statements.Goals as goal

pub stmt_calls-returns-in-Block : goal.stmt_calls-returns-in-Block
stmt_calls-returns-in-Block t c =
    let e = block-called c.args.name.now c.args.stmt.now c.in-Block.items c.in-Block.is in
    subst (λ (b : Bool). c.block_calls.result ≡ b) (sym e) (first_of (search rules, grind (arith, common_steps)))
