use Rattle.std.proofs.Common.{◌≡◌, ◌+◌, ◌≤◌, arith}
use Rattle.ob_outside.proofs.Splices.{shifted_one, spliced}
use Rattle.ob_outside.proofs.digits.spliced.Goals as goal

pub returns : goal.returns
returns c =
    let low : c.args.from ≤ 64 = omega arith in
    rw (shifted_one c.args.from low, shifted_one (c.args.from + c.args.count) c.requires.places, c.from-old.ensures)
    (spliced c.args.from c.args.count c.args.old c.args.digits c.requires.few)
