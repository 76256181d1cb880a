use Rattle.ob_frames.proofs.Nesting.{leave_gives_its_link}
use Rattle.ob_frames.proofs.laws.law_links.Goals as goal

pub returns : goal.returns
returns c = leave_gives_its_link
