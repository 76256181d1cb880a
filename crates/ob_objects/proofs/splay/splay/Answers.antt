use Rattle.std.proofs.Common.{◌≡◌, List, arith, ap, sym, subst, ◌∙◌, false}
use Rattle.ob_objects.specs.declared.node.Node.{Node}
use Rattle.ob_objects.specs.declared.node.Side.TheVariants.{Less, More}
use Rattle.ob_objects.specs.Spread.{Steps, IsRooted, IsSplit}
use Rattle.ob_objects.specs.Trees.{Tree}
use Rattle.ob_objects.specs.Turned.{closed}
use Rattle.ob_objects.proofs.Raising.{here_within, end_of_within}
use Rattle.ob_objects.proofs.Splays.{IsOnWay, begins, goes_on, measure_falls, splits}
use Rattle.ob_objects.proofs.splay.splay.Goals as goal

pub loop-init : goal.loop-init
loop-init c = λ t rooted. begins c.args.address c.args.nodes.now c.args.root t c.requires.some rooted

pub loop-smaller : goal.loop-smaller
loop-smaller c =
    let t : Tree = c.requires.rooted.0 in
    let rooted : IsRooted c.args.nodes.now c.args.root t = c.requires.rooted.1 in
    let way : IsOnWay c.args.address c.args.nodes.now c.loop.nodes c.loop.place t = c.loop.invariant t rooted in
    measure_falls c.args.address c.args.nodes.now c.loop.nodes c.step.new.nodes c.args.root c.loop.place c.step.new.place t rooted way
    (subst (λ more. Steps c.args.address c.loop.nodes c.step.new.nodes c.step.new.place way.0 more) c.loop-test.true (c.step.ensures way.0 (way.1).spread))

pub loop-preserved : goal.loop-preserved
loop-preserved c = λ t rooted.
    let way : IsOnWay c.args.address c.args.nodes.now c.loop.nodes c.loop.place t = c.loop.invariant t rooted in
    goes_on c.args.address c.args.nodes.now c.loop.nodes c.step.new.nodes c.loop.place c.step.new.place t c.step.result way (c.step.ensures way.0 (way.1).spread)

pub close-requires-clause-end : goal.close-requires-clause-end
close-requires-clause-end c =
    let t : Tree = c.requires.rooted.0 in
    let way : IsOnWay c.args.address c.args.nodes.now c.loop.nodes c.loop.place t = c.loop.invariant t c.requires.rooted.1 in
    let step : Steps c.args.address c.loop.nodes c.step.new.nodes c.step.new.place way.0 c.step.result = c.step.ensures way.0 (way.1).spread in
    end_of_within c.step.new.nodes c.step.new.place More step.to step.moves.spread

pub close-requires-2-clause-here : goal.close-requires-2-clause-here
close-requires-2-clause-here c =
    let t : Tree = c.requires.rooted.0 in
    let way : IsOnWay c.args.address c.args.nodes.now c.loop.nodes c.loop.place t = c.loop.invariant t c.requires.rooted.1 in
    let step : Steps c.args.address c.loop.nodes c.step.new.nodes c.step.new.place way.0 c.step.result = c.step.ensures way.0 (way.1).spread in
    let within = here_within c.step.new.nodes c.step.new.place step.to step.moves.spread in
    omega arith

pub close-requires-2-clause-end : goal.close-requires-2-clause-end
close-requires-2-clause-end c =
    let t : Tree = c.requires.rooted.0 in
    let way : IsOnWay c.args.address c.args.nodes.now c.loop.nodes c.loop.place t = c.loop.invariant t c.requires.rooted.1 in
    let step : Steps c.args.address c.loop.nodes c.step.new.nodes c.step.new.place way.0 c.step.result = c.step.ensures way.0 (way.1).spread in
    let within = end_of_within c.step.new.nodes c.step.new.place Less step.to step.moves.spread in
    omega arith

pub returns : goal.returns
returns c = λ t rooted.
    let way : IsOnWay c.args.address c.args.nodes.now c.loop.nodes c.loop.place t = c.loop.invariant t rooted in
    let step : Steps c.args.address c.loop.nodes c.step.new.nodes c.step.new.place way.0 false = subst (λ more. Steps c.args.address c.loop.nodes c.step.new.nodes c.step.new.place way.0 more) c.loop-test.false (c.step.ensures way.0 (way.1).spread) in
    let last : c.close-2.new.nodes ≡ closed (closed c.step.new.nodes c.step.new.place More) c.step.new.place Less = c.close-2.ensures ∙ ap (λ (ns : List Node). closed ns c.step.new.place Less) c.close.ensures in
    subst (λ (ns : List Node). IsSplit c.args.address c.args.nodes.now ns c.step.new.place.here t) (sym last)
    (splits c.args.address c.args.nodes.now c.loop.nodes c.step.new.nodes c.args.root c.loop.place c.step.new.place t rooted way step)
