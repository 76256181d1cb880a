use Rattle.ob_scopes.proofs.Maps.{updates-by_bytes}
use Rattle.ob_scopes.proofs.newest.clear.Goals as goal

pub returns : goal.returns
returns c = updates-by_bytes c.args.name.now c.args.map.now c.remove.new.self _ c.remove.ensures.updates
