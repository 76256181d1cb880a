use Rattle.std.proofs.Common.{Some}
use Rattle.ob_tree.specs.ExpressionView.{expr_tree}
use Rattle.ob_tree.specs.ProgramMachine.{used}
use Rattle.ob_declarations.specs.View.{expr_context_of}
use Rattle.ob_parser.proofs.Loop.{none_left, ends-goes, ends-stuck}
use Rattle.ob_parser.proofs.read.behind_expr.Goals as goal

pub returns-in_default : goal.returns-in_default
returns-in_default c =
    c.requires.ends.nothing (none_left (λ t. t.now) c.args.tokens.now.items c.args.at c.token_at.result c.token_at.ensures c.in_default.not-Some)

pub returns-in-Some-2 : goal.returns-in-Some-2
returns-in-Some-2 c =
    ends-goes c.args.tokens.now.items c.args.from c.args.at (λ k. used k (expr_context_of c.args.context) (Some (expr_tree c.args.expr))) c.requires.ends c.in-Some.token.now c.in_ok-next.field-0 c.in-Some-2.next
    c.in-Some.ensures c.in_ok-next.ensures c.in-Some-2.is

pub returns-in-None : goal.returns-in-None
returns-in-None c =
    ends-stuck c.args.tokens.now.items c.args.from c.args.at (λ k. used k (expr_context_of c.args.context) (Some (expr_tree c.args.expr))) c.requires.ends c.in-Some.token.now c.in_ok-next.field-0
    c.in-Some.ensures c.in_ok-next.ensures c.in-None.is
