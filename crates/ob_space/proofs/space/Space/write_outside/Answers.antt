use Rattle.ob_space.proofs.Linking.{links_kept}
use Rattle.ob_space.proofs.space.Space.write_outside.Goals as goal

pub returns-clause-links : goal.returns-clause-links
returns-clause-links c = rw (← c.self.view_is) (links_kept c.self.inside.frames.memory c.self.inside.frames.calls c.law_framed.ensures.linked)
