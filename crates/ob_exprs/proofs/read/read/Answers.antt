use Rattle.std.proofs.Common.{◌≡◌, length, arith}
use Rattle.ob_exprs.specs.Reading.{state_of}
use Rattle.ob_exprs.specs.ReadTokens.{reading}
use Rattle.ob_exprs.proofs.Loop.{goes-on, too-deep, at-end}
use Rattle.ob_exprs.proofs.read.read.Goals as goal

pub returns-then-depth-newest_path-clause-reads : goal.returns-then-depth-newest_path-clause-reads
returns-then-depth-newest_path-clause-reads c =
    let left = reading c.args.tokens.now c.args.least c.args.depth c.args.from (state_of c.args.start) in
    too-deep c.args.tokens.now c.args.least c.args.depth left c.loop-place.place _ c.index-tokens-place.result c.loop-place.reader
    (omega arith) c.index-tokens-place.is c.loop-place.invariant c.in_ok-next.field-0 c.in_ok-next.ensures c.in-Shifted.next c.in-Shifted.is (omega arith)

pub loop-place-preserved : goal.loop-place-preserved
loop-place-preserved c =
    goes-on c.args.tokens.now c.args.least c.args.depth (reading c.args.tokens.now c.args.least c.args.depth c.args.from (state_of c.args.start)) c.loop-place.place _ c.index-tokens-place.result c.loop-place.reader
    (omega arith) c.index-tokens-place.is c.loop-place.invariant c.in_ok-next.field-0 c.in_ok-next.ensures c.in-Shifted.next c.in-Shifted.is (omega arith) (omega arith)

pub returns-clause-reads : goal.returns-clause-reads
returns-clause-reads c =
    let e : c.loop-place.place ≡ length c.args.tokens.now = omega arith in
    at-end c.args.tokens.now c.args.least c.args.depth (reading c.args.tokens.now c.args.least c.args.depth c.args.from (state_of c.args.start)) c.loop-place.place c.loop-place.reader e c.loop-place.invariant
