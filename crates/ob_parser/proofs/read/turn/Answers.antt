use Rattle.ob_declarations.specs.Shifts.{state_of}
use Rattle.ob_parser.proofs.Stars.{few_stars}
use Rattle.ob_parser.proofs.Loop.{turn-goes, turn-stuck, turn-reads, turn-specifies}
use Rattle.ob_parser.proofs.read.turn.Goals as goal

pub shift-requires : goal.shift-requires
shift-requires c = few_stars (state_of c.args.state) c.requires.kept.limit

pub returns-in-Shifted : goal.returns-in-Shifted
returns-in-Shifted c =
    turn-goes c.args.tokens.now.items c.requires.of_source c.args.from c.index-token.result.now c.requires.from_in c.index-token.ensures c.args.state c.requires.kept c.in_ok-next.field-0 c.in_ok-next.ensures
    c.in-Shifted.next c.in-Shifted.is

pub returns-in-Rejected : goal.returns-in-Rejected
returns-in-Rejected c =
    turn-stuck c.args.tokens.now.items c.requires.of_source c.args.from c.index-token.result.now c.requires.from_in c.index-token.ensures c.args.state c.requires.kept c.in_ok-next.field-0 c.in_ok-next.ensures
    c.in-Rejected.is

pub after_expr-requires-clause-awaits : goal.after_expr-requires-clause-awaits
after_expr-requires-clause-awaits c =
    turn-reads c.args.tokens.now.items c.requires.of_source c.args.from c.index-token.result.now c.requires.from_in c.index-token.ensures c.args.state c.requires.kept c.in_ok-next.field-0 c.in_ok-next.ensures
    c.in-NeedsExpr.context c.in-NeedsExpr.is

pub after_spec-requires-clause-awaits : goal.after_spec-requires-clause-awaits
after_spec-requires-clause-awaits c =
    turn-specifies c.args.tokens.now.items c.requires.of_source c.args.from c.index-token.result.now c.requires.from_in c.index-token.ensures c.args.state c.requires.kept c.in_ok-next.field-0 c.in_ok-next.ensures
    c.in-NeedsSpec.context c.in-NeedsSpec.is
