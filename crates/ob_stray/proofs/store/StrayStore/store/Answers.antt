use Rattle.std.proofs.Common.{◌≡◌, ◌∙◌, ℤ, Bool, List, false, Option, is_some, ap, sym, w64}
use Rattle.std.specs.Option.{option_map}
use Rattle.std.proofs.lemmas.Int.{to_z-of_z}
use Rattle.std.proofs.lemmas.Bool.{false≢true}
use Rattle.lru.specs.LruCache.{LruCache, lru_cache, put_entries, displaced}
use Rattle.ob_model.specs.Bounded.{Listed}
use Rattle.ob_model.specs.Descriptors.{Pair, same_pair}
use Rattle.ob_model.specs.declared.values.Cell.{Cell}
use Rattle.ob_stray.specs.Kept.{Entry, entry_of, is_listed}
use Rattle.ob_stray.specs.Store.{BoundedList, as_dropped, answer_of}
use Rattle.ob_stray.specs.declared.store.Dropped.{Dropped}
use Rattle.ob_stray.proofs.Listings.{cell_of, put_is, answer_listed, answer_new, exact_listed, exact_new}
use Rattle.ob_stray.proofs.store.StrayStore.store.Goals as goal

pub returns-then-lists-clause-stored : goal.returns-then-lists-clause-stored
returns-then-lists-clause-stored c =
    let put : ℤ → LruCache Pair Cell = λ z. lru_cache (put_entries same_pair c.self.inside.cells (c.args.object, z) c.args.cell) c.self.inside.cells.cap in
    let list : List (Listed Cell) → BoundedList = λ l. record { cap = c.self.inside.cells.cap; listed = l } in
    let valid = c.lists.ensures.valid in
    rw (← c.self.view_is, c.put_again.ensures ∙ ap put (to_z-of_z w64 c.args.granule c.ranges.granule)) (ap list (put_is c.self.inside.cells.cap (c.args.object, c.args.granule) c.args.cell c.self.inside.cells.entries valid.0 valid.1 valid.2))

pub returns-then-lists-clause-left : goal.returns-then-lists-clause-left
returns-then-lists-clause-left c =
    let here : ℤ → Bool = λ z. is_listed (c.args.object, z) c.self.inside.cells.entries in
    let valid = c.lists.ensures.valid in
    let answer : BoundedList → Option Dropped = λ s. answer_of s c.args.object c.args.granule c.args.cell in
    answer_listed c.self.inside.cells.cap (c.args.object, c.args.granule) c.args.cell c.self.inside.cells.entries (ap here (sym (to_z-of_z w64 c.args.granule c.ranges.granule)) ∙ sym c.lists.ensures.value ∙ c.if-lists.true) valid.0 valid.1
    ∙ ap answer c.self.view_is

pub returns-then-lists-clause-exact : goal.returns-then-lists-clause-exact
returns-then-lists-clause-exact c =
    let here : ℤ → Bool = λ z. is_listed (c.args.object, z) c.self.inside.cells.entries in
    rw (← c.self.view_is) (exact_listed c.self.inside.cells.cap (c.args.object, c.args.granule) c.self.inside.cells.entries (ap here (sym (to_z-of_z w64 c.args.granule c.ranges.granule)) ∙ sym c.lists.ensures.value ∙ c.if-lists.true))

pub returns-in_err-put_new-clause-kept : goal.returns-in_err-put_new-clause-kept
returns-in_err-put_new-clause-kept c =
    let here : ℤ → Bool = λ z. is_listed (c.args.object, z) c.self.inside.cells.entries in
    let new : here c.args.granule ≡ false = ap here (sym (to_z-of_z w64 c.args.granule c.ranges.granule)) ∙ sym c.lists.ensures.value ∙ c.if-lists.false in
    rw (← c.self.view_is)
    (λ listed. absurd (false≢true (sym new ∙ ap is_some (sym (cell_of (c.args.object, c.args.granule) c.self.inside.cells.entries)) ∙ listed)))

pub returns-clause-stored : goal.returns-clause-stored
returns-clause-stored c =
    let put : ℤ → LruCache Pair Cell = λ z. lru_cache (put_entries same_pair c.self.inside.cells (c.args.object, z) c.args.cell) c.self.inside.cells.cap in
    let list : List (Listed Cell) → BoundedList = λ l. record { cap = c.self.inside.cells.cap; listed = l } in
    let valid = c.lists.ensures.valid in
    rw (← c.self.view_is, c.in_ok-put_new.ensures.entries ∙ ap put (to_z-of_z w64 c.args.granule c.ranges.granule)) (ap list (put_is c.self.inside.cells.cap (c.args.object, c.args.granule) c.args.cell c.self.inside.cells.entries valid.0 valid.1 valid.2))

pub returns-clause-left : goal.returns-clause-left
returns-clause-left c =
    let out : ℤ → Option Entry = λ z. displaced same_pair c.self.inside.cells (c.args.object, z) c.args.cell in
    let here : ℤ → Bool = λ z. is_listed (c.args.object, z) c.self.inside.cells.entries in
    let answer : BoundedList → Option Dropped = λ s. answer_of s c.args.object c.args.granule c.args.cell in
    let left : Option Entry → Option Dropped = option_map (λ e. as_dropped (entry_of e)) in
    c.as_dropped.ensures
    ∙ ap left (c.in_ok-put_new.ensures.left ∙ ap out (to_z-of_z w64 c.args.granule c.ranges.granule))
    ∙ answer_new c.self.inside.cells.cap (c.args.object, c.args.granule) c.args.cell c.self.inside.cells.entries (ap here (sym (to_z-of_z w64 c.args.granule c.ranges.granule)) ∙ sym c.lists.ensures.value ∙ c.if-lists.false) c.lists.ensures.valid.2
    ∙ ap answer c.self.view_is

pub returns-clause-exact : goal.returns-clause-exact
returns-clause-exact c =
    let out : ℤ → Option Entry = λ z. displaced same_pair c.self.inside.cells (c.args.object, z) c.args.cell in
    let here : ℤ → Bool = λ z. is_listed (c.args.object, z) c.self.inside.cells.entries in
    let valid = c.lists.ensures.valid in
    let new : here c.args.granule ≡ false = ap here (sym (to_z-of_z w64 c.args.granule c.ranges.granule)) ∙ sym c.lists.ensures.value ∙ c.if-lists.false in
    rw (← c.self.view_is, c.as_dropped.ensures, c.in_ok-put_new.ensures.left ∙ ap out (to_z-of_z w64 c.args.granule c.ranges.granule))
    (ap is_some (answer_new c.self.inside.cells.cap (c.args.object, c.args.granule) c.args.cell c.self.inside.cells.entries new valid.2)
    ∙ exact_new c.self.inside.cells.cap (c.args.object, c.args.granule) c.args.cell c.self.inside.cells.entries new valid.1 valid.2)
