use Rattle.std.proofs.Common.{◌≡◌, ◌∙◌, ap, arith}
use Rattle.std.proofs.lemmas.Nat.{and_mask}
use Rattle.std.specs.Int.{w16, w32, to_le_bytes}
use Rattle.ob_words.proofs.Bytes.{one_written, copied_into, low_2, low_4, low_8}
use Rattle.ob_words.proofs.fields.put_le.Goals as goal

pub returns-in-1 : goal.returns-in-1
returns-in-1 c = one_written c.args.bytes.now c.args.at c.args.size c.args.w c.in-1.is c.requires.inside

pub returns-in-2 : goal.returns-in-2
returns-in-2 c =
    copied_into c.args.bytes.now c.args.at 2 c.args.size c.args.w _ c.in-2.is
    (c.copy_from_slice.ensures.after ∙ c.to_le_bytes.ensures ∙ ap (to_le_bytes w16) (and_mask c.args.w 16) ∙ low_2 c.args.w)

pub returns-in-4 : goal.returns-in-4
returns-in-4 c =
    copied_into c.args.bytes.now c.args.at 4 c.args.size c.args.w _ c.in-4.is
    (c.copy_from_slice-in-4.ensures.after ∙ c.to_le_bytes-in-4.ensures ∙ ap (to_le_bytes w32) (and_mask c.args.w 32) ∙ low_4 c.args.w)

pub returns-in_default : goal.returns-in_default
returns-in_default c =
    let size = c.requires.size in
    let last : c.args.size ≡ 8 = grind (arith, size) in
    copied_into c.args.bytes.now c.args.at 8 c.args.size c.args.w _ last
    (c.copy_from_slice-in_default.ensures.after ∙ c.to_le_bytes-in_default.ensures ∙ low_8 c.args.w)
