use Rattle.std.proofs.Common.{List, ap}
use Rattle.ob_model.specs.Bounded.{Listed}
use Rattle.ob_model.specs.declared.values.Cell.{Cell}
use Rattle.ob_stray.specs.Store.{BoundedList}
use Rattle.ob_stray.proofs.Indexing.{listing-others}
use Rattle.ob_stray.proofs.store.StrayStore.forget.Goals as goal

pub returns : goal.returns
returns c =
    let list : List (Listed Cell) → BoundedList = λ l. record { cap = c.self.inside.cells.cap; listed = l } in
    rw (← c.self.view_is, c.forget.ensures) (ap list (listing-others c.args.object c.self.inside.cells.entries))
