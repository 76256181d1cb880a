use Rattle.std.proofs.Common.{◌≡◌, ◌<◌, length, arith, ap}
use Rattle.ob_lifetimes.specs.Living.{Living}
use Rattle.ob_space.proofs.Laying.{all_made, behind_all, none_made, one_more}
use Rattle.ob_space.proofs.statics.add_statics.Goals as goal

pub loop-i-init : goal.loop-i-init
loop-i-init c = none_made c.args.living.now c.requires.none c.requires.empty c.requires.first

pub add_static-requires-clause-few : goal.add_static-requires-clause-few
add_static-requires-clause-few c =
    let statics : c.loop-i.living.statics ≡ c.loop-i.i = ap (λ (y : Living). y.statics) c.loop-i.invariant in
    let most : c.loop-i.living.most_statics ≡ c.args.living.now.most_statics = ap (λ (y : Living). y.most_statics) c.loop-i.invariant in
    omega (arith, statics, most, c.requires.most, c.statics-i-end.ensures)

pub add_static-requires-clause-behind : goal.add_static-requires-clause-behind
add_static-requires-clause-behind c =
    behind_all c.args.frames.now.statics c.args.living.now c.loop-i.living c.loop-i.i c.loop-i.invariant

pub add_static-requires-clause-next : goal.add_static-requires-clause-next
add_static-requires-clause-next c = ap (λ (y : Living). y.next) c.loop-i.invariant

pub loop-i-preserved : goal.loop-i-preserved
loop-i-preserved c =
    let below : c.loop-i.i < length c.args.frames.now.statics = omega (arith, c.statics-i-end.ensures) in
    one_more c.args.frames.now.statics c.args.living.now c.loop-i.living c.add_static.new.living c.loop-i.i below c.loop-i.invariant c.add_static.ensures

pub returns : goal.returns
returns c =
    let full : c.loop-i.i ≡ length c.args.frames.now.statics = omega (arith, c.statics-i-end.ensures) in
    all_made c.args.frames.now.statics c.args.living.now c.loop-i.living c.loop-i.i full c.loop-i.invariant
