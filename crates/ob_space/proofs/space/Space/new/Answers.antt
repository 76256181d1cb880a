use Rattle.std.proofs.Common.{◌∙◌, ap}
use Rattle.ob_space.proofs.Laying.{kept_new, no_objects}
use Rattle.ob_space.proofs.space.Space.new.Goals as goal

-- src/space.rt:57:9
pub invariant_of-result : goal.invariant_of-result
invariant_of-result c =
    kept_new c.args.v.now c.in_ok-frames.frames c.in_ok-living.living c.add_statics.new.living c.args.settings.now
    c.law_framed.ensures c.in_ok-frames.ensures.value
    (c.in_ok-living.ensures ∙ ap (no_objects c.args.settings.now) c.statics.ensures)
    c.add_statics.ensures
