use Rattle.std.proofs.Common.{◌≡◌, ◌-◌, ◌*◌, ◌^◌, ◌==◌, Some, None, true, ap, sym, ◌∙◌}
use Rattle.std.proofs.lemmas.Bool.{cond-false, cond-true}
use Rattle.ob_outside.specs.Digits.{digits_at}
use Rattle.ob_outside.proofs.Reading.{number_in}
use Rattle.ob_outside.proofs.cells.read_number.Goals as goal

pub returns-then-are_set : goal.returns-then-are_set
returns-then-are_set c =
    sym
    (number_in c.args.cell c.args.count c.args.place c.if-cell.false c.requires
    ∙ cond-true (digits_at c.args.cell.set c.args.place c.args.count == 2 ^ c.args.count - 1) (Some (digits_at c.args.cell.word (8 * c.args.place) (8 * c.args.count))) None (sym c.are_set.ensures ∙ c.if-are_set.true)
    ∙ ap Some (sym c.digits_at.ensures))

pub returns-else-are_set : goal.returns-else-are_set
returns-else-are_set c =
    sym
    (number_in c.args.cell c.args.count c.args.place c.if-cell.false c.requires
    ∙ cond-false (digits_at c.args.cell.set c.args.place c.args.count == 2 ^ c.args.count - 1) (Some (digits_at c.args.cell.word (8 * c.args.place) (8 * c.args.count))) None (sym c.are_set.ensures ∙ c.if-are_set.false))
