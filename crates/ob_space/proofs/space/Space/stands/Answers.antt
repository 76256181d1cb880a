use Rattle.ob_space.proofs.Reaching.{Grounds, granules_apart}
use Rattle.ob_space.proofs.space.Space.stands.Goals as goal

pub returns : goal.returns
returns c =
    let grounds : Grounds c.self.inside.frames c.self.inside.living c.self.inside.settings = record { framed = c.law_framed.ensures; sound = c.stands.ensures; kept = c.self.invariant; locals_lie = c.law_objects.ensures.locals_lie; locals_meet = c.law_objects.ensures.locals_meet; others_meet = c.law_objects.ensures.others_meet } in
    rw (← c.self.view_is) (granules_apart c.self.inside.frames c.self.inside.living c.self.inside.settings grounds)
