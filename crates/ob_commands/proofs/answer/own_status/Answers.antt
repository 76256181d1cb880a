use Rattle.ob_commands.proofs.Residue.{remainder_is}
use Rattle.ob_commands.proofs.answer.own_status.Goals as goal

pub returns : goal.returns
returns c = remainder_is 128 c.args.number c.rem_euclid.result c.ranges.number (record { sfits = c.rem_euclid.type_inv }) c.rem_euclid.ensures.value
