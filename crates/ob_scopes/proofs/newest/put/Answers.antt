use Rattle.ob_scopes.proofs.Maps.{updates-by_bytes}
use Rattle.ob_scopes.proofs.newest.put.Goals as goal

pub returns-clause-ok : goal.returns-clause-ok
returns-clause-ok c = updates-by_bytes c.args.name.items c.args.map.now c.insert.new.self _ c.in_ok-insert.ensures.updates
