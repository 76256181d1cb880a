use Rattle.ob_first.proofs.FirstVerified.{no_fault}
use Rattle.ob_first.proofs.first_form.verified.Goals as goal

pub unreachable-requires : goal.unreachable-requires
unreachable-requires c = no_fault c.args.image c.in-Err.field-0 c.requires c.in-Err.ensures
