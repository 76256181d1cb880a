use Rattle.ob_lifetimes.proofs.Sounding.{sound_objects}
use Rattle.ob_lifetimes.proofs.lifetimes.Lifetimes.stands.Goals as goal

pub returns : goal.returns
returns c =
    let i = c.self.inside in
    rw (← c.self.view_is) (sound_objects i.pointers i.shelf i.outside i.most_statics i.statics i.locals i.next c.self.invariant c.stands.ensures i.profile)
