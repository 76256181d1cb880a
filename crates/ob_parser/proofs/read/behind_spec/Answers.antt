use Rattle.std.proofs.Common.{Some, sym}
use Rattle.ob_tree.specs.ExpressionView.{spec_tree}
use Rattle.ob_tree.specs.Places.{here}
use Rattle.ob_tree.specs.Fronts.{lines}
use Rattle.ob_tree.specs.ProgramMachine.{specified}
use Rattle.ob_declarations.specs.Shifts.{Reaches}
use Rattle.ob_declarations.specs.View.{spec_context_of}
use Rattle.ob_parser.proofs.Loop.{none_left, ends-goes, ends-stuck, at_line}
use Rattle.ob_parser.proofs.read.behind_spec.Goals as goal

pub returns-in_default : goal.returns-in_default
returns-in_default c =
    c.requires.ends.nothing (none_left (λ t. t.now) c.args.tokens.now.items c.args.at c.token_at.result c.token_at.ensures c.in_default.not-Some)

pub returns-in-Some-2 : goal.returns-in-Some-2
returns-in-Some-2 c =
    let ts = c.args.tokens.now.items in
    let u = spec_context_of c.args.context in
    let t = c.in-Some.token.now in
    let r = at_line ts c.args.at t (λ m. Reaches c.in_ok-next.field-0 (specified m t.kind u (Some (spec_tree c.args.spec)))) (sym c.in-Some.ensures) c.in_ok-next.ensures in
    ends-goes ts c.args.from c.args.at (λ k. specified (here (lines ts) c.args.at) k u (Some (spec_tree c.args.spec))) c.requires.ends t c.in_ok-next.field-0 c.in-Some-2.next c.in-Some.ensures r c.in-Some-2.is

pub returns-in-None : goal.returns-in-None
returns-in-None c =
    let ts = c.args.tokens.now.items in
    let u = spec_context_of c.args.context in
    let t = c.in-Some.token.now in
    let r = at_line ts c.args.at t (λ m. Reaches c.in_ok-next.field-0 (specified m t.kind u (Some (spec_tree c.args.spec)))) (sym c.in-Some.ensures) c.in_ok-next.ensures in
    ends-stuck ts c.args.from c.args.at (λ k. specified (here (lines ts) c.args.at) k u (Some (spec_tree c.args.spec))) c.requires.ends t c.in_ok-next.field-0 c.in-Some.ensures r c.in-None.is
