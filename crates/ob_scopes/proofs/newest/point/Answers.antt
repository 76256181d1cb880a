use Rattle.std.proofs.Common.{rules}
use Rattle.ob_scopes.proofs.Maps.{updates-by_bytes}
use Rattle.ob_scopes.proofs.newest.point.Goals as goal

pub returns-in-Some : goal.returns-in-Some
returns-in-Some c = updates-by_bytes c.args.name.now c.args.map.now (c.get_mut.follows.lender c.args.place) _ ((c.get_mut.follows.holds c.args.place).3 (search rules))
