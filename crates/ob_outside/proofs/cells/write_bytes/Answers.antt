use Rattle.std.proofs.Common.{◌≡◌, ℕ, ◌-◌, ◌*◌, ◌%◌, ◌^◌, List, Option, ap, ◌∙◌}
use Rattle.ob_model.specs.Cells.{Content, bytes, entries_of}
use Rattle.ob_outside.specs.Digits.{IsSpliced}
use Rattle.ob_outside.proofs.Writing.{entries_written}
use Rattle.ob_outside.proofs.cells.write_bytes.Goals as goal

pub returns : goal.returns
returns c =
    let bits : IsSpliced c.args.place c.args.count c.args.set (2 ^ c.args.count - 1) c.spliced-bits.result = rw (c.from.ensures, c.ones.ensures.value) at c.spliced-bits.ensures in
    let word : IsSpliced (8 * c.args.place) (8 * c.args.count) c.args.old (c.args.w % 2 ^ (8 * c.args.count)) c.spliced-word.result = rw c.low_digits.ensures.value at c.spliced-word.ensures in
    let of : List (Option ℕ) → Content ℕ = λ es. bytes es in
    ap of
    (ap (λ (n : ℕ). entries_of 8 n c.as_word.result) c.as_byte.ensures
    ∙ ap (λ (n : ℕ). entries_of 8 (c.spliced-bits.result % 256) n) c.as_word.ensures
    ∙ entries_written c.args.place c.args.count c.args.set c.args.old c.spliced-bits.result c.spliced-word.result c.args.w c.requires bits word)
