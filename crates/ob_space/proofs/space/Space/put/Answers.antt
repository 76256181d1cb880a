use Rattle.ob_space.proofs.Linking.{links_kept}
use Rattle.ob_space.proofs.space.Space.put.Goals as goal

pub returns-in-Vanishing-clause-links : goal.returns-in-Vanishing-clause-links
returns-in-Vanishing-clause-links c = rw (← c.self.view_is) (links_kept c.self.inside.frames.memory c.self.inside.frames.calls c.law_framed.ensures.linked)
