use Rattle.std.proofs.Common.{subst}
use Rattle.ob_exprs.specs.DeepestPaths.{level_number}
use Rattle.ob_exprs.specs.Parsed.{ParsedExpr}
use Rattle.ob_declarations.specs.View.{expr_context_of}
use Rattle.ob_parser.proofs.Loop.{expr-fault, expr-ends}
use Rattle.ob_parser.proofs.read.after_expr.Goals as goal

pub behind_expr-requires-clause-ends : goal.behind_expr-requires-clause-ends
behind_expr-requires-clause-ends c =
    let ts = c.args.tokens.now.items in
    let read = subst (ParsedExpr ts c.args.from c.depth_of_expr-depth.result (level_number c.level_of.result)) c.in-Ok.is c.parse_expr.ensures in
    expr-ends ts c.args.from (expr_context_of c.args.context) c.requires.awaits c.depth_of_expr-depth.result (level_number c.level_of.result) c.depth_of_expr-depth.ensures.exact c.level_of.ensures c.in-Ok.expr c.in-Ok.at read

pub returns-in-Err : goal.returns-in-Err
returns-in-Err c =
    let ts = c.args.tokens.now.items in
    let read = subst (ParsedExpr ts c.args.from c.depth_of_expr-depth.result (level_number c.level_of.result)) c.in-Err.is c.parse_expr.ensures in
    expr-fault ts c.args.from (expr_context_of c.args.context) c.requires.awaits c.depth_of_expr-depth.result (level_number c.level_of.result) c.depth_of_expr-depth.ensures.exact c.level_of.ensures c.in-Err.fault read
