use Rattle.std.proofs.Common.{append_assoc}
use Rattle.ob_image.specs.Layout.{spell_fields}
use Rattle.ob_image.proofs.fields.put_fields.Goals as goal

pub returns : goal.returns
unfolding spell_fields
returns c =
    rw (c.in_ok-put_long.ensures, c.in_ok-put_word-4.ensures, c.in_ok-put_word-3.ensures, c.in_ok-put_word-2.ensures, c.in_ok-put_word.ensures, c.in_ok-put_zeros.ensures, c.in_ok-put_byte-2.ensures, c.in_ok-put_byte.ensures)
    (simp append_assoc)
