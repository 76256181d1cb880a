use Rattle.ob_image.proofs.Givens.{given_short, split_zero, split_all}
use Rattle.ob_image.proofs.given.given.Goals as goal

pub returns-then-bytes-count : goal.returns-then-bytes-count
returns-then-bytes-count c = given_short c.args.count c.args.bytes.now c.if-bytes-count.true

pub returns-then-ends_with_zero : goal.returns-then-ends_with_zero
returns-then-ends_with_zero c =
    let zero = c.ends_with_zero.ensures.0 c.if-ends_with_zero.true in
    split_zero c.args.count c.args.bytes.now c.split_at.result.0.now c.split_at.result.1.now c.split_at.ensures.front c.split_at.ensures.back c.if-bytes-count.false zero.0 zero.1

pub returns : goal.returns
returns c =
    rw (c.from_vec.ensures, c.in_ok-from_slice.ensures.items)
    (split_all c.args.count c.args.bytes.now c.split_at.result.0.now c.split_at.result.1.now c.split_at.ensures.front c.split_at.ensures.back c.if-bytes-count.false
    (λ some ends. let t = c.ends_with_zero.ensures.1 (some, ends) in let f = c.if-ends_with_zero.false in absurd cc))
