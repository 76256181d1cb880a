use Rattle.std.proofs.Common.{◌≡◌, arith, sym, ap}
use Rattle.ob_words.specs.Words.{block}
use Rattle.ob_shelf.specs.Places.{Places}
use Rattle.ob_shelf.proofs.FirstGap.{heap_place-none}
use Rattle.ob_shelf.proofs.shelf.Shelf.take.Goals as goal

pub returns-then-n-from-clause-place : goal.returns-then-n-from-clause-place
returns-then-n-from-clause-place c =
    let heap : c.self.inside.heap ≡ c.args.self.now.heap = ap (λ (s : Places). s.heap) c.self.view_is in
    sym (heap_place-none c.law_first_fit.ensures c.args.self.now.blocks c.args.self.now.heap (block c.args.n)
    (λ q fits. omega (arith, fits.within, heap, c.if-n-from.true, c.from.ensures)))
