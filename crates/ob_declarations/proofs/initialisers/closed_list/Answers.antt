use Rattle.ob_declarations.proofs.Pushed.{list_made}
use Rattle.ob_declarations.proofs.initialisers.closed_list.Goals as goal

pub returns : goal.returns
returns c = list_made c.args.braces.first c.args.braces.items c.args.comma
