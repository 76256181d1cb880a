use Rattle.std.proofs.Common.{◌≡◌, ◌∙◌, false, Some, FitsSigned, sym, subst, slice_get, ◌-◌, w64, rules}
use Rattle.lru.specs.LruCache.{LruCache, IsValid}
use Rattle.ob_model.specs.Descriptors.{Pair, same_pair}
use Rattle.ob_model.specs.declared.values.Cell.{Cell}
use Rattle.ob_stray.specs.Kept.{is_listed}
use Rattle.ob_stray.proofs.Indexing.{index-back, index-new, index-drop, displaced-new}
use Rattle.ob_stray.proofs.indexed.IndexedCells.put_new.Goals as goal

pub invariant_of-self-in_default : goal.invariant_of-self-in_default
invariant_of-self-in_default c =
    let new : is_listed c.args.key c.self.inside.cells.entries ≡ false = subst (λ (s : LruCache Pair Cell). is_listed c.args.key s.entries ≡ false) (sym c.self.view_is) c.requires.new in
    let fits : FitsSigned w64 c.args.key.1 = search rules in
    rw c.in_default.ensures.err
    (index-back c.self.inside.index c.insert.new.self c.remove.new.self c.args.key c.self.inside.cells.entries new fits c.in_ok-insert.ensures.updates.0 c.remove.ensures.updates.0 c.self.invariant)

pub invariant_of-self-in-Some : goal.invariant_of-self-in-Some
invariant_of-self-in-Some c =
    let new : is_listed c.args.key c.self.inside.cells.entries ≡ false = subst (λ (s : LruCache Pair Cell). is_listed c.args.key s.entries ≡ false) (sym c.self.view_is) c.requires.new in
    let valid : IsValid same_pair c.self.inside.cells = subst (IsValid same_pair) (sym c.self.view_is) c.requires.valid in
    let fits : FitsSigned w64 c.args.key.1 = search rules in
    let last : slice_get c.self.inside.cells.entries (c.self.inside.cells.cap - 1) ≡ Some (c.in-Some.gone, c.in-Some.field-0-1) =
    sym (displaced-new c.self.inside.cells.cap c.args.key c.args.cell c.self.inside.cells.entries new) ∙ sym c.in-Ok.ensures.old ∙ c.in-Some.is in
    rw c.in-Ok.ensures.entries
    (index-drop c.self.inside.index c.insert.new.self c.remove-in-Some.new.self c.self.inside.cells.cap c.args.key c.args.cell c.self.inside.cells.entries (c.in-Some.gone, c.in-Some.field-0-1) new fits c.in_ok-insert.ensures.updates.0 c.remove-in-Some.ensures.updates.0 last valid.1 valid.2 valid.0 c.self.invariant)

pub invariant_of-self-in_default-left : goal.invariant_of-self-in_default-left
invariant_of-self-in_default-left c =
    let new : is_listed c.args.key c.self.inside.cells.entries ≡ false = subst (λ (s : LruCache Pair Cell). is_listed c.args.key s.entries ≡ false) (sym c.self.view_is) c.requires.new in
    let fits : FitsSigned w64 c.args.key.1 = search rules in
    rw c.in-Ok.ensures.entries
    (index-new c.self.inside.index c.insert.new.self c.self.inside.cells.cap c.args.key c.args.cell c.self.inside.cells.entries new fits c.in_ok-insert.ensures.updates.0
    (sym (displaced-new c.self.inside.cells.cap c.args.key c.args.cell c.self.inside.cells.entries new) ∙ sym c.in-Ok.ensures.old ∙ c.in_default-left.is) c.self.invariant)
