use Rattle.std.proofs.Common.{◌≤◌, arith, append_assoc}
use Rattle.ob_image.specs.Layout.{any_word}
use Rattle.ob_image.specs.Spelling.{spell_image}
use Rattle.ob_image.proofs.Verified.{has_spelling}
use Rattle.ob_image.proofs.writing.put_image.Goals as goal

pub returns-clause-text : goal.returns-clause-text
unfolding spell_image
returns-clause-text c =
    rw (
      c.in_ok-put_rows-5.ensures.text,
      c.as_slice-5.ensures,
      c.in_ok-put_rows-4.ensures.text,
      c.as_slice-4.ensures,
      c.in_ok-put_word-3.ensures,
      c.in_ok-put_rows-3.ensures.text,
      c.as_slice-3.ensures,
      c.in_ok-put_rows-2.ensures.text,
      c.as_slice-2.ensures,
      c.in_ok-put_rows.ensures.text,
      c.as_slice.ensures,
      c.in_ok-put_word-2.ensures,
      c.profile_number.ensures,
      c.in_ok-put_word.ensures,
      c.in_ok-extend_from_slice.ensures.items,
    )
    (simp append_assoc)

pub returns-clause-typed : goal.returns-clause-typed
returns-clause-typed c = λ v.
    let main : c.args.image.now.main ≤ any_word = search arith in
    has_spelling c.args.image.now (rw c.as_slice.ensures at c.in_ok-put_rows.ensures.typed) (rw c.as_slice-2.ensures at c.in_ok-put_rows-2.ensures.typed)
    (rw c.as_slice-3.ensures at c.in_ok-put_rows-3.ensures.typed) main (rw c.as_slice-4.ensures at c.in_ok-put_rows-4.ensures.typed)
    (rw c.as_slice-5.ensures at c.in_ok-put_rows-5.ensures.typed) v
