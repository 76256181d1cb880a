use Rattle.std.proofs.Common.{◌≡◌, None, get_or, arith, sym, ap, ◌∙◌}
use Rattle.ob_first.specs.FirstReading.{next, piece_of}
use Rattle.ob_first.proofs.FirstReadings.{stuck}
use Rattle.ob_first.proofs.first_form.read_code.Goals as goal

pub returns-in_default : goal.returns-in_default
returns-in_default c =
    let kind = c.kind-item.result in
    let none : next c.loop-kind.place (piece_of (get_or c.args.kinds.now c.loop-kind.kind-index kind)) ≡ None =
    ap (λ k. next c.loop-kind.place (piece_of k)) (sym c.kind-item.is)
    ∙ sym (ap (next c.loop-kind.place) c.piece_of-piece.ensures)
    ∙ sym c.next.ensures
    ∙ c.in_default.is in
    stuck c.args.kinds.now c.loop-kind.kind-index kind c.loop-kind.place c.loop-kind.code.items (omega arith) c.loop-kind.invariant none
