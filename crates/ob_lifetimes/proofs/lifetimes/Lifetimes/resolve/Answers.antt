use Rattle.ob_lifetimes.proofs.Sounding.{sound_objects}
use Rattle.ob_lifetimes.proofs.lifetimes.Lifetimes.resolve.Goals as goal

pub returns-clause-sound : goal.returns-clause-sound
returns-clause-sound c =
    let i = c.self.inside in
    rw (← c.self.view_is) (sound_objects i.pointers i.shelf i.outside i.most_statics i.statics i.locals i.next c.self.invariant c.resolve.ensures.sound i.profile)
