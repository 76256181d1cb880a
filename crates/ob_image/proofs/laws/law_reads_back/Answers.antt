use Rattle.ob_image.proofs.Wholes.{reads_back}
use Rattle.ob_image.proofs.laws.law_reads_back.Goals as goal

pub returns : goal.returns
returns c = reads_back
