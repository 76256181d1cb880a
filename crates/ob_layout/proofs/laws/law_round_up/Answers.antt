use Rattle.ob_layout.proofs.RoundUps.{round_up_is}
use Rattle.ob_layout.proofs.laws.law_round_up.Goals as goal

pub returns : goal.returns
returns c = round_up_is
