use Rattle.std.proofs.Common.{w64}
use Rattle.std.proofs.lemmas.Int.{to_z-of_z}
use Rattle.ob_space.proofs.Linking.{links_kept}
use Rattle.ob_space.proofs.Reaching.{Grounds, among_of, reached}
use Rattle.ob_space.proofs.space.Space.access.Goals as goal

pub returns-clause-reached : goal.returns-clause-reached
returns-clause-reached c =
    let grounds : Grounds c.self.inside.frames c.self.inside.living c.self.inside.settings = record { framed = c.law_framed.ensures; sound = c.stands.ensures; kept = c.self.invariant; locals_lie = c.law_objects.ensures.locals_lie; locals_meet = c.law_objects.ensures.locals_meet; others_meet = c.law_objects.ensures.others_meet } in
    rw (c.access_to.ensures, to_z-of_z w64 c.args.displacement c.ranges.displacement, c.size_of_kind.ensures, ← c.self.view_is)
    (reached c.self.inside.frames c.self.inside.living c.self.inside.settings c.resolve-pointer.result c.args.displacement c.args.kind grounds (among_of c.self.inside.living.entries c.resolve-pointer.result c.resolve-pointer.ensures.known))

pub returns-clause-links : goal.returns-clause-links
returns-clause-links c = rw (← c.self.view_is) (links_kept c.self.inside.frames.memory c.self.inside.frames.calls c.law_framed.ensures.linked)
