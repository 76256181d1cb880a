use Rattle.ob_image.proofs.Wholes.{no_prefix}
use Rattle.ob_image.proofs.laws.law_no_prefix.Goals as goal

pub returns : goal.returns
returns c = no_prefix
