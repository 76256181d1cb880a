use Rattle.std.proofs.Common.{ap, ◌∙◌, bit_and, to_z, of_z}
use Rattle.std.specs.Prelude.{pos, ◌-ℤ◌, unsigned_abs}
use Rattle.std.specs.Int.{w128}
use Rattle.ob_words.proofs.Machine.{places_is}
use Rattle.ob_words.proofs.operators.places.Goals as goal

pub returns : goal.returns
returns c =
    ap (λ k. unsigned_abs (to_z w128 (bit_and (of_z w128 c.args.b) (of_z w128 (to_z w128 k -ℤ pos 1))))) c.width.ensures
    ∙ places_is c.args.t c.args.b c.ranges.b
