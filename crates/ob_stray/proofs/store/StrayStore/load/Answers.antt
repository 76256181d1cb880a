use Rattle.std.proofs.Common.{ℤ, List, Option, ap, sym, ◌∙◌, w64}
use Rattle.std.specs.Map.{lookup}
use Rattle.std.proofs.lemmas.Int.{to_z-of_z}
use Rattle.lru.specs.LruCache.{LruCache, lru_cache, promoted}
use Rattle.ob_model.specs.Bounded.{Listed}
use Rattle.ob_model.specs.Descriptors.{Pair, same_pair}
use Rattle.ob_model.specs.declared.values.Cell.{Cell}
use Rattle.ob_stray.specs.Store.{BoundedList}
use Rattle.ob_stray.proofs.Listings.{cell_of, promoted_is}
use Rattle.ob_stray.proofs.store.StrayStore.load.Goals as goal

pub returns-clause-cell : goal.returns-clause-cell
returns-clause-cell c =
    let found : ℤ → Option Cell = λ z. lookup (same_pair (c.args.object, z)) c.self.inside.cells.entries in
    rw (← c.self.view_is)
    (c.bring.ensures.value ∙ ap found (to_z-of_z w64 c.args.granule c.ranges.granule) ∙ sym (cell_of (c.args.object, c.args.granule) c.self.inside.cells.entries))

pub returns-clause-moved : goal.returns-clause-moved
returns-clause-moved c =
    let moved : ℤ → LruCache Pair Cell = λ z. lru_cache (promoted (same_pair (c.args.object, z)) c.self.inside.cells.entries) c.self.inside.cells.cap in
    let list : List (Listed Cell) → BoundedList = λ l. record { cap = c.self.inside.cells.cap; listed = l } in
    rw (← c.self.view_is, c.bring.ensures.entries ∙ ap moved (to_z-of_z w64 c.args.granule c.ranges.granule))
    (ap list (promoted_is (c.args.object, c.args.granule) c.self.inside.cells.entries c.bring.ensures.valid.0))
