use Rattle.std.proofs.Common.{ℤ, refl, subst, w64}
use Rattle.std.proofs.lemmas.Int.{to_z-of_z}
use Rattle.ob_lifetimes.specs.Living.{pointing_of}
use Rattle.ob_pointers.specs.Pointing.{Shifts}
use Rattle.ob_space.proofs.Linking.{links_kept}
use Rattle.ob_space.proofs.Keeping.{shifted_space, standing_shifted}
use Rattle.ob_space.proofs.space.Space.shift.Goals as goal

pub returns-clause-moved : goal.returns-clause-moved
returns-clause-moved c =
    let moved : Shifts c.args.w c.args.displacement (pointing_of c.self.inside.living) c.shift.result (pointing_of c.shift.new.self) = subst (λ (z : ℤ). Shifts c.args.w z (pointing_of c.self.inside.living) c.shift.result (pointing_of c.shift.new.self)) (to_z-of_z w64 c.args.displacement c.ranges.displacement) c.shift.ensures.moved in
    rw (← c.self.view_is)
    (record {
      moved = shifted_space c.self.inside.frames c.self.inside.living c.shift.new.self c.self.inside.settings c.args.w c.args.displacement c.shift.result c.self.invariant c.shift.ensures.others moved;
      rest = refl;
    })

pub returns-clause-links : goal.returns-clause-links
returns-clause-links c = rw (← c.self.view_is) (links_kept c.self.inside.frames.memory c.self.inside.frames.calls c.law_framed.ensures.linked)

pub returns-clause-standing : goal.returns-clause-standing
returns-clause-standing c =
    let moved : Shifts c.args.w c.args.displacement (pointing_of c.self.inside.living) c.shift.result (pointing_of c.shift.new.self) = subst (λ (z : ℤ). Shifts c.args.w z (pointing_of c.self.inside.living) c.shift.result (pointing_of c.shift.new.self)) (to_z-of_z w64 c.args.displacement c.ranges.displacement) c.shift.ensures.moved in
    rw (← c.self.view_is)
    (standing_shifted c.law_moves.ensures c.self.inside.frames c.self.inside.living c.shift.new.self c.self.inside.settings c.args.w c.args.displacement c.shift.result c.self.invariant c.shift.ensures.others moved c.shift.ensures.unchanged)
