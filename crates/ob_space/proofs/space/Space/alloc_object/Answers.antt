use Rattle.std.proofs.Common.{Some, refl}
use Rattle.ob_space.proofs.Linking.{links_kept}
use Rattle.ob_space.specs.Kept.{loaded_in}
use Rattle.ob_space.specs.Loaded.{Loaded}
use Rattle.ob_space.proofs.Allocating.{kept_made, made_living}
use Rattle.ob_space.proofs.Keeping.{kept_memory}
use Rattle.ob_space.proofs.space.Space.alloc_object.Goals as goal

pub returns-in_err-place-clause-links : goal.returns-in_err-place-clause-links
returns-in_err-place-clause-links c = rw (← c.self.view_is) (links_kept c.self.inside.frames.memory c.self.inside.frames.calls c.law_framed.ensures.linked)

pub invariant_of-self-2 : goal.invariant_of-self-2
invariant_of-self-2 c =
    rw (c.zero.ensures.memory, c.in_ok-place.ensures.made)
    (kept_memory c.self.inside.frames _ (made_living c.in_ok-place.place c.args.n c.self.inside.living) c.self.inside.settings refl refl (kept_made c.self.inside.frames c.self.inside.living c.self.inside.settings c.in_ok-place.place c.args.n c.law_framed.ensures c.self.invariant))

pub returns-clause-standing : goal.returns-clause-standing
returns-clause-standing c =
    let old : Loaded = loaded_in c.self.inside.frames c.self.inside.living c.self.inside.settings in
    rw (← c.self.view_is, c.zero.ensures.memory, c.block.ensures.value, c.in_ok-place.ensures.made)
    (c.law_new_objects.ensures.allocations (Some c.in_ok-place.place) c.args.n old.space c.stands.ensures.given_out)
