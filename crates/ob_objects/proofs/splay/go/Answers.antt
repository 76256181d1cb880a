use Rattle.std.proofs.Common.{◌<◌, arith}
use Rattle.ob_objects.specs.Nodes.{child, node_at}
use Rattle.ob_objects.specs.Spread.{IsSpread, Spread}
use Rattle.ob_objects.proofs.Raising.{IsRaised, with_here, raised_is, raised_last, no_child, hung_is, end_of_within}
use Rattle.ob_objects.proofs.splay.go.Goals as goal

pub returns-then-child_of-eq0 : goal.returns-then-child_of-eq0
returns-then-child_of-eq0 c = λ z spread.
    no_child c.args.address c.args.nodes.now c.args.place.now c.args.side z spread c.requires.side (omega (arith, c.child_of.ensures, c.if-child_of-eq0.true))

pub returns-then-child_of-eq0-2 : goal.returns-then-child_of-eq0-2
returns-then-child_of-eq0-2 c = λ z spread.
    let there : 0 < child c.args.side (node_at c.args.nodes.now c.args.place.now.here) = omega (arith, c.child_of.ensures, c.if-child_of-eq0.false) in
    raised_last c.args.address c.args.nodes.now c.raise-place.new.nodes (with_here c.args.place.now c.raise-place.result) c.args.side z
    (raised_is c.args.address c.args.nodes.now c.raise-place.new.nodes c.args.place.now c.args.side c.raise-place.result z c.raise-place.ensures.nodes c.raise-place.ensures.root spread c.requires.side there)
    (omega (arith, c.child_of-2.ensures, c.if-child_of-eq0-2.true))

pub hang-requires-clause-end : goal.hang-requires-clause-end
hang-requires-clause-end c =
    let z : Spread = c.requires.spread.0 in
    let spread : IsSpread c.args.nodes.now c.args.place.now z = c.requires.spread.1 in
    let there : 0 < child c.args.side (node_at c.args.nodes.now c.args.place.now.here) = omega (arith, c.child_of.ensures, c.if-child_of-eq0.false) in
    let up : IsRaised c.args.address c.args.nodes.now c.raise-place.new.nodes (with_here c.args.place.now c.raise-place.result) c.args.side z = raised_is c.args.address c.args.nodes.now c.raise-place.new.nodes c.args.place.now c.args.side c.raise-place.result z c.raise-place.ensures.nodes c.raise-place.ensures.root spread c.requires.side there in
    end_of_within c.raise-place.new.nodes (with_here c.args.place.now c.raise-place.result) c.args.side up.to up.moves.spread

pub returns : goal.returns
returns c = λ z spread.
    let there : 0 < child c.args.side (node_at c.args.nodes.now c.args.place.now.here) = omega (arith, c.child_of.ensures, c.if-child_of-eq0.false) in
    hung_is c.args.address c.args.nodes.now c.raise-place.new.nodes c.hang.new.nodes (with_here c.args.place.now c.raise-place.result) c.hang.result c.args.side z c.hang.ensures.nodes c.hang.ensures.place
    (raised_is c.args.address c.args.nodes.now c.raise-place.new.nodes c.args.place.now c.args.side c.raise-place.result z c.raise-place.ensures.nodes c.raise-place.ensures.root spread c.requires.side there)
    (omega (arith, c.child_of-2.ensures, c.if-child_of-eq0-2.false))
