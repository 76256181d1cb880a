use Rattle.std.proofs.lemmas.List.{take_rest}
use Rattle.ob_image.proofs.Digits.{exactly_none, exactly_wrong, exactly_gives}
use Rattle.ob_image.proofs.numbers.+exactly.Goals as goal

pub returns-in-empty-bytes : goal.returns-in-empty-bytes
returns-in-empty-bytes t c = exactly_none c.args.text.now c.args.bytes.now c.in-len1-up.len_at_least c.in-empty-bytes.len_below

pub returns-in-len1-up-bytes : goal.returns-in-len1-up-bytes
returns-in-len1-up-bytes t c = exactly_wrong c.args.text.now c.args.bytes.now c.in-len1-up.len_at_least c.in-len1-up-bytes.len_at_least c.if-byte-wanted.true

pub returns-in-len1-up-2 : goal.returns-in-len1-up-2
returns-in-len1-up-2 t c = exactly_gives c.args.text.now c.args.bytes.now c.exactly.result c.in-len1-up.len_at_least c.in-len1-up-bytes.len_at_least c.if-byte-wanted.false
    (rw (take_rest c.args.text.now 1, take_rest c.args.bytes.now 1) at c.exactly.ensures)
