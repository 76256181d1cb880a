use Rattle.std.proofs.Common.{arith}
use Rattle.ob_lexer.proofs.NumberLemmas.{number-over, number-end}
use Rattle.ob_lexer.proofs.numbers.number.Goals as goal

pub returns-in-None : goal.returns-in-None
returns-in-None c = λ small.
    c.in-None.ensures
    (let over = number-over c.args.base c.base_number-base.result c.loop-digit.value c.digit_value.result c.args.digits.now c.loop-digit.digit-index c.base_number-base.ensures c.digit_value.ensures c.loop-digit-test.true c.loop-digit.invariant.spelled in
    omega (arith, over, small))

pub returns : goal.returns
returns c =
    let total = number-end c.args.base c.base_number-base.result c.loop-digit.value c.args.digits.now c.loop-digit.digit-index c.base_number-base.ensures c.loop-digit-test.false c.loop-digit.invariant.spelled in
    (omega (arith, total, c.loop-digit.invariant.fits), total)
