use Rattle.ob_initialisers.proofs.TypedRows.{list_items}
use Rattle.ob_initialisers.proofs.lists.list_of.Goals as goal

pub returns : goal.returns
returns c = list_items c.args.items
