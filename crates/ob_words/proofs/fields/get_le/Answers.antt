use Rattle.std.proofs.Common.{◌≡◌, ◌∙◌, arith}
use Rattle.ob_words.proofs.Bytes.{one_byte, copied_field, from_2, from_4, from_8}
use Rattle.ob_words.proofs.fields.get_le.Goals as goal

pub returns-in-1 : goal.returns-in-1
returns-in-1 c = one_byte c.args.bytes.now c.args.at c.args.size c.in-1.is c.requires.inside

pub returns-in-2 : goal.returns-in-2
returns-in-2 c =
    copied_field c.args.bytes.now c.args.at 2 c.args.size c.copy_from_slice.new.self _ c.in-2.is c.copy_from_slice.ensures.after
    (c.from_le_bytes.ensures ∙ from_2 c.copy_from_slice.new.self c.copy_from_slice.ensures.len)

pub returns-in-4 : goal.returns-in-4
returns-in-4 c =
    copied_field c.args.bytes.now c.args.at 4 c.args.size c.copy_from_slice-in-4.new.self _ c.in-4.is c.copy_from_slice-in-4.ensures.after
    (c.from_le_bytes-in-4.ensures ∙ from_4 c.copy_from_slice-in-4.new.self c.copy_from_slice-in-4.ensures.len)

pub returns-in_default : goal.returns-in_default
returns-in_default c =
    let size = c.requires.size in
    let last : c.args.size ≡ 8 = grind (arith, size) in
    copied_field c.args.bytes.now c.args.at 8 c.args.size c.copy_from_slice-in_default.new.self _ last c.copy_from_slice-in_default.ensures.after
    (c.from_le_bytes-in_default.ensures ∙ from_8 c.copy_from_slice-in_default.new.self c.copy_from_slice-in_default.ensures.len)
