use Rattle.std.proofs.Common.{◌<◌, ◌≤◌, sym, ◌∙◌, arith}
use Rattle.std.proofs.lemmas.List.{take_all}
use Rattle.ob_image.specs.Reading.{leading}
use Rattle.ob_image.proofs.NameReads.{name_short, name_reserved, name_whole}
use Rattle.ob_image.proofs.names.name.Goals as goal

pub returns-then-bytes-count : goal.returns-then-bytes-count
returns-then-bytes-count c =
    let short : leading c.args.bytes.now < c.args.count = omega (arith, c.leading.ensures.run, c.leading.ensures.within, c.if-bytes-count.true) in
    rw c.leading.ensures.run (name_short c.args.count c.args.bytes.now c.args.bytes.now (sym (take_all c.args.count c.args.bytes.now (omega (arith, c.if-bytes-count.true)))) short)

pub returns-then-length-count : goal.returns-then-length-count
returns-then-length-count c =
    let short : leading c.split_at.result.0.now < c.args.count = omega (arith, c.leading-length.ensures.run, c.if-length-count.true) in
    rw c.leading-length.ensures.run (name_short c.args.count c.args.bytes.now c.split_at.result.0.now c.split_at.ensures.front short)

pub returns-then-not-is_name : goal.returns-then-not-is_name
returns-then-not-is_name c =
    let long : c.args.count ≤ leading c.split_at.result.0.now = omega (arith, c.leading-length.ensures.run, c.if-length-count.false) in
    name_reserved c.args.count c.args.bytes.now c.split_at.result.0.now c.split_at.result.1.now c.requires c.if-bytes-count.false c.split_at.ensures.front c.split_at.ensures.back long
    (sym c.is_name.ensures ∙ c.if-not-is_name.true)

pub returns : goal.returns
returns c =
    let long : c.args.count ≤ leading c.split_at.result.0.now = omega (arith, c.leading-length.ensures.run, c.if-length-count.false) in
    rw (c.from_vec.ensures, c.in_ok-from_slice.ensures.items)
    (name_whole c.args.count c.args.bytes.now c.split_at.result.0.now c.split_at.result.1.now c.requires c.if-bytes-count.false c.split_at.ensures.front c.split_at.ensures.back long
    (sym c.is_name.ensures ∙ c.if-not-is_name.false))
