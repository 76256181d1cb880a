use Rattle.std.proofs.Common.{◌≡◌, None, ap, sym, ◌∙◌}
use Rattle.ob_away.specs.Kept.{Index, named}
use Rattle.ob_away.proofs.index.point.Goals as goal

pub returns-clause-room : goal.returns-clause-room
returns-clause-room c =
    let kept = c.get_mut.follows.holds-at-none in
    let unnamed : named c.get_mut.follows.lender-at-none c.args.pair ≡ None = ap (λ (m : Index). named m c.args.pair) kept ∙ sym c.in_default.ensures.value in
    rw (← kept) (c.add.ensures.room unnamed)
