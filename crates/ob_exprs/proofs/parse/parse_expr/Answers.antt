use Rattle.std.proofs.Common.{Err, subst}
use Rattle.std.proofs.lemmas.Result.{err_from_is_err_and}
use Rattle.ob_tree.specs.ExprStates.{BeforeOperand}
use Rattle.ob_exprs.specs.Reading.{held}
use Rattle.ob_exprs.specs.ReadTokens.{reading, Leaves, Stands}
use Rattle.ob_exprs.proofs.Loop.{parsed-some, parsed-none, parsed-fault}
use Rattle.ob_exprs.proofs.parse.parse_expr.Goals as goal

pub returns-in_err-reader : goal.returns-in_err-reader
returns-in_err-reader c =
    let p = err_from_is_err_and c.from_residual.result c.from_residual.ensures.1 in
    rw (p.1, p.2) (
    parsed-fault c.args.tokens.now.items c.args.from c.args.depth c.args.level c.number.result (held c.empty.result) c.number.ensures c.empty.ensures c.requires.of_source c.requires.from_in c.requires.depth_in c.in_err-reader.field-0.0
    (subst (λ ts. Leaves (reading ts c.number.result c.args.depth c.args.from (BeforeOperand (held c.empty.result))) (Err c.in_err-reader.field-0.0)) c.as_slice.ensures.value c.in_err-reader.ensures.reads)
    )

pub returns-in-Some : goal.returns-in-Some
returns-in-Some c =
    parsed-some c.args.tokens.now.items c.args.from c.args.depth c.args.level c.number.result (held c.empty.result) c.number.ensures c.empty.ensures c.requires.of_source c.requires.from_in c.requires.depth_in
    c.in_ok-reader.place c.in_ok-reader.reader c.in_ok-expr.field-0 c.in-Some.expr
    (subst (λ ts. Stands (reading ts c.number.result c.args.depth c.args.from (BeforeOperand (held c.empty.result))) c.in_ok-reader.place c.in_ok-reader.reader) c.as_slice.ensures.value c.in_ok-reader.ensures.reads)
    c.in_ok-expr.ensures c.in-Some.is

pub returns-in-None : goal.returns-in-None
returns-in-None c =
    parsed-none c.args.tokens.now.items c.args.from c.args.depth c.args.level c.number.result (held c.empty.result) c.number.ensures c.empty.ensures c.requires.of_source c.requires.from_in c.requires.depth_in
    c.in_ok-reader.place c.in_ok-reader.reader c.in_ok-expr.field-0
    (subst (λ ts. Stands (reading ts c.number.result c.args.depth c.args.from (BeforeOperand (held c.empty.result))) c.in_ok-reader.place c.in_ok-reader.reader) c.as_slice.ensures.value c.in_ok-reader.ensures.reads)
    c.in_ok-expr.ensures c.in-None.is
