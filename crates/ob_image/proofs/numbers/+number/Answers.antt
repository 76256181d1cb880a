use Rattle.std.proofs.Common.{◌≤◌, get_or, arith}
use Rattle.std.proofs.lemmas.Result.{err_from_is_err_and}
use Rattle.std.proofs.lemmas.List.{take_rest}
use Rattle.ob_image.proofs.Digits.{number_none, number_past, number_more, number_fails}
use Rattle.ob_image.proofs.numbers.+number.Goals as goal

pub returns-then-limit-low-clause-value : goal.returns-then-limit-low-clause-value
returns-then-limit-low-clause-value t c =
    number_past c.args.size c.args.limit c.args.bytes.now c.if-size-eq0.false c.in-len1-up.len_at_least (omega (arith, c.from-low.ensures, c.if-limit-low.true))

pub returns-in_err-high-in-len1-up-clause-value : goal.returns-in_err-high-in-len1-up-clause-value
returns-in_err-high-in-len1-up-clause-value t c =
    let p = err_from_is_err_and c.from_residual.result c.from_residual.ensures.1 in
    let fits : get_or c.args.bytes.now 0 0 ≤ c.args.limit = omega (arith, c.from-low.ensures, c.if-limit-low.false) in
    rw (p.1, p.2) (number_fails c.in_err-high-in-len1-up.field-0.0 c.args.size c.args.limit c.args.bytes.now c.if-size-eq0.false c.in-len1-up.len_at_least fits
    (rw (c.from-low.ensures, take_rest c.args.bytes.now 1) at c.in_err-high-in-len1-up.ensures.value))

pub returns-in-empty-clause-value : goal.returns-in-empty-clause-value
returns-in-empty-clause-value t c = number_none c.args.size c.args.limit c.args.bytes.now c.if-size-eq0.false c.in-empty.len_below

pub returns-in_ok-high-in-len1-up-clause-value : goal.returns-in_ok-high-in-len1-up-clause-value
returns-in_ok-high-in-len1-up-clause-value t c =
    let fits : get_or c.args.bytes.now 0 0 ≤ c.args.limit = omega (arith, c.from-low.ensures, c.if-limit-low.false) in
    rw (
      c.from-low.ensures,
      number_more c.args.size c.args.limit c.args.bytes.now c.if-size-eq0.false c.in-len1-up.len_at_least fits,
      (rw (c.from-low.ensures, take_rest c.args.bytes.now 1) at c.in_ok-high-in-len1-up.ensures.value),
    )
