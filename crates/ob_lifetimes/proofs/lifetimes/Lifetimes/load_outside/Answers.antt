use Rattle.std.proofs.Common.{◌≡◌, ℤ, to_z, of_z, w64, ap, ◌∙◌}
use Rattle.std.proofs.lemmas.Int.{to_z-of_z}
use Rattle.ob_model.specs.Accesses.{granule}
use Rattle.ob_model.specs.Bounded.{after_load}
use Rattle.ob_outside.specs.Granules.{Granules}
use Rattle.ob_lifetimes.proofs.Keeping.{kept_cells}
use Rattle.ob_lifetimes.proofs.Moving.{loaded_cells}
use Rattle.ob_lifetimes.proofs.lifetimes.Lifetimes.load_outside.Goals as goal

pub invariant_of-self : goal.invariant_of-self
invariant_of-self c =
    let i = c.self.inside in
    let at : ℤ → Granules = λ z. record i.outside { listed = after_load c.args.object (granule z) i.outside.listed } in
    let offset : to_z w64 (of_z w64 c.args.offset) ≡ c.args.offset = to_z-of_z w64 c.args.offset c.ranges.offset in
    let moved : c.load.new.self ≡ at c.args.offset = c.load.ensures.moved ∙ ap at offset in
    rw moved
    (kept_cells i.pointers i.shelf i.outside i.most_statics i.statics i.locals i.next c.self.invariant (after_load c.args.object (granule c.args.offset) i.outside.listed)
    (loaded_cells i.pointers.entries c.args.object (granule c.args.offset) i.outside.listed c.self.invariant.cells))
