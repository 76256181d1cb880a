use Rattle.std.proofs.Common.{arith}
use Rattle.ob_parser.proofs.NewestPath.{count_dims}
use Rattle.ob_parser.proofs.paths.context_depth.Goals as goal

pub returns-in-Length : goal.returns-in-Length
returns-in-Length c = rw c.in-Length.is (omega (arith, count_dims c.in-Length.dims.items))
