use Rattle.std.proofs.Common.{arith, sym, subst}
use Rattle.ob_lexer.specs.Texts.{HasLexFault}
use Rattle.ob_lexer.proofs.CursorLemmas.{reading-start, reading-small, reading-refused, took, reading-next, reading-end}
use Rattle.ob_lexer.proofs.Scanning.{right-spelled, right-faulty, spells-same, spells-no-fault}
use Rattle.ob_lexer.proofs.SourceTokens.{spells-few, spells-of-source}
use Rattle.ob_lexer.proofs.lexer.lex.Goals as goal

pub loop-place-init : goal.loop-place-init
loop-place-init c = reading-start c.args.bytes.now c.new-tokens.result.items c.start-place.result c.new-tokens.ensures.items c.start-place.ensures

pub returns-in-Err : goal.returns-in-Err
returns-in-Err c =
    let right : HasLexFault c.args.bytes.now c.fault.result = subst (HasLexFault c.args.bytes.now) (sym c.fault.ensures)
    (reading-refused c.args.bytes.now c.loop-place.tokens.items c.loop-place.place c.skip-rest.result.now c.in-Err.refusal c.loop-place.invariant c.loop-place-test.true c.skip-rest.ensures c.in-Err.ensures) in
    record {
      right = right;
      spelled = λ ts g. right-spelled c.args.bytes.now ts c.fault.result g right;
      few = tt;
      of_source = tt;
      faulty = λ k i g. right-faulty c.args.bytes.now k i c.fault.result g right;
    }

pub past-after-requires-clause-line : goal.past-after-requires-clause-line
past-after-requires-clause-line c = (reading-small c.args.bytes.now c.loop-place.tokens.items c.loop-place.place c.loop-place.invariant).line

pub past-after-requires-clause-column : goal.past-after-requires-clause-column
past-after-requires-clause-column c = (reading-small c.args.bytes.now c.loop-place.tokens.items c.loop-place.place c.loop-place.invariant).column

pub push-requires-clause-past : goal.push-requires-clause-past
push-requires-clause-past c =
    let t = took c.args.bytes.now c.loop-place.tokens.items c.loop-place.place c.past-after.result c.skip-rest.result.now c.front.result.now c.in-Ok.taken c.loop-place.invariant c.loop-place-test.true c.skip-rest.ensures c.in-Ok.ensures c.front.ensures c.past-after.ensures in
    omega (arith, t.at, t.within, c.requires)

pub push-requires-clause-line : goal.push-requires-clause-line
push-requires-clause-line c =
    let s = reading-small c.args.bytes.now c.loop-place.tokens.items c.loop-place.place c.loop-place.invariant in
    omega (arith, s.line, c.loop-place-test.true, c.requires)

pub push-requires-clause-column : goal.push-requires-clause-column
push-requires-clause-column c =
    let s = reading-small c.args.bytes.now c.loop-place.tokens.items c.loop-place.place c.loop-place.invariant in
    omega (arith, s.column, c.loop-place-test.true, c.requires)

pub loop-place-smaller : goal.loop-place-smaller
loop-place-smaller c =
    let t = took c.args.bytes.now c.loop-place.tokens.items c.loop-place.place c.past-after.result c.skip-rest.result.now c.front.result.now c.in-Ok.taken c.loop-place.invariant c.loop-place-test.true c.skip-rest.ensures c.in-Ok.ensures c.front.ensures c.past-after.ensures in
    omega (arith, t.at, t.some, t.within, c.loop-place-test.true)

pub loop-place-preserved : goal.loop-place-preserved
loop-place-preserved c =
    reading-next c.args.bytes.now c.loop-place.tokens.items c.push.new.tokens.items c.loop-place.place c.past-after.result c.skip-rest.result.now c.front.result.now c.in-Ok.taken c.loop-place.invariant c.loop-place-test.true c.skip-rest.ensures c.in-Ok.ensures c.front.ensures c.past-after.ensures
    c.in_ok-push-in-Ok.ensures

pub returns : goal.returns
returns c =
    let right = reading-end c.args.bytes.now c.loop-place.tokens.items c.loop-place.place c.loop-place-test.false c.loop-place.invariant in
    record {
      right = right;
      spelled = λ ts g. spells-same c.args.bytes.now c.loop-place.tokens.items ts right g;
      few = spells-few c.args.bytes.now c.loop-place.tokens.items c.requires right;
      of_source = spells-of-source c.args.bytes.now c.loop-place.tokens.items c.requires right;
      faulty = λ k i g. spells-no-fault c.args.bytes.now c.loop-place.tokens.items k i right g;
    }
