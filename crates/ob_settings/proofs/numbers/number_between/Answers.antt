use Rattle.std.proofs.Common.{◌*◌, ◌+◌, ◌<◌, subst}
use Rattle.ob_settings.proofs.Digits.{too_large}
use Rattle.ob_settings.proofs.numbers.number_between.Goals as goal

pub returns-then-value-most : goal.returns-then-value-most
returns-then-value-most c =
    too_large c.args.least c.args.most c.args.word.now c.loop-byte.byte-index c.loop-byte.value c.loop-byte-test.true c.loop-byte.invariant.value
    (subst (λ d. c.args.most < 10 * c.loop-byte.value + d) c.from.ensures c.if-value-most.true)
