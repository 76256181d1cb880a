use Rattle.std.proofs.Common.{◌≡◌, true, sym, subst}
use Rattle.lru.specs.LruCache.{LruCache, IsValid}
use Rattle.ob_model.specs.Descriptors.{Pair, same_pair}
use Rattle.ob_model.specs.declared.values.Cell.{Cell}
use Rattle.ob_stray.specs.Kept.{is_listed}
use Rattle.ob_stray.proofs.Indexing.{at-ok, index-again}
use Rattle.ob_stray.proofs.indexed.IndexedCells.put_again.Goals as goal

pub invariant_of-self : goal.invariant_of-self
invariant_of-self c =
    let here : is_listed c.args.key c.self.inside.cells.entries ≡ true = subst (λ (s : LruCache Pair Cell). is_listed c.args.key s.entries ≡ true) (sym c.self.view_is) c.requires.listed in
    let valid : IsValid same_pair c.self.inside.cells = subst (IsValid same_pair) (sym c.self.view_is) c.requires.valid in
    rw (at-ok c.push.result (c.push.ensures.succeeds here) c.push.ensures.entries)
    (index-again c.self.inside.index c.self.inside.cells.cap c.args.key c.args.cell c.self.inside.cells.entries here valid.0 c.self.invariant)
