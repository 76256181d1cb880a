use Rattle.std.proofs.Common.{◌≡◌, ℕ, ℤ, false, true, List, Option, FitsSigned, to_z, of_z, w64, rules, ap, sym, subst, ◌∙◌}
use Rattle.std.specs.Prelude.{unwrap_or, IsSome}
use Rattle.std.specs.Option.{option_map}
use Rattle.std.proofs.lemmas.Int.{to_z-of_z}
use Rattle.ob_model.specs.declared.values.Cell.{Cell}
use Rattle.ob_model.specs.Accesses.{granule}
use Rattle.ob_model.specs.Bounded.{Listed, after_load, after_store, listed_cell}
use Rattle.ob_model.specs.Cells.{Content, content, unset}
use Rattle.ob_code.specs.Accesses.{write_cell}
use Rattle.ob_stray.specs.Store.{BoundedList}
use Rattle.ob_outside.specs.Granules.{Granules}
use Rattle.ob_outside.proofs.Lists.{listed_after, listed_before, stored_is}
use Rattle.ob_outside.proofs.outside.Outside.store.Goals as goal

pub returns-in_err-store-clause-kept : goal.returns-in_err-store-clause-kept
returns-in_err-store-clause-kept c = rw (← c.self.view_is)
    (λ listed.
    let cells : List (Listed Cell) = c.self.inside.store.listed in
    let object : ℕ = c.args.object in
    let with_cells : ℤ → BoundedList = λ z. record c.self.inside.store { listed = after_load object z cells } in
    let fits : FitsSigned w64 c.granule_of-granule.result = search rules in
    let is : c.granule_of-granule.result ≡ granule c.args.offset = search rules in
    let place : to_z w64 (of_z w64 c.granule_of-granule.result) ≡ granule c.args.offset = to_z-of_z w64 c.granule_of-granule.result fits ∙ is in
    let moved : c.load-found.new.self ≡ with_cells (granule c.args.offset) = c.load-found.ensures.moved ∙ ap with_cells place in
    let here = listed_after object (granule c.args.offset) cells (listed_before object (granule c.args.offset) cells listed) in
    let P : BoundedList → ℤ → Type 0 = λ s z. IsSome (listed_cell object z s.listed) in
    let never : false ≡ true = c.in_err-store.ensures.kept (subst (λ (z : ℤ). P c.load-found.new.self z) (sym place) (subst (λ (s : BoundedList). P s (granule c.args.offset)) (sym moved) here)) in
    absurd (cc))

pub returns-clause-stored : goal.returns-clause-stored
returns-clause-stored c =
    let cells : List (Listed Cell) = c.self.inside.store.listed in
    let object : ℕ = c.args.object in
    let cap : ℕ = c.self.inside.store.cap in
    let with_list : List (Listed (Content ℕ)) → Granules = λ es. record { cap = cap; listed = es } in
    let with_cells : ℤ → BoundedList = λ z. record c.self.inside.store { listed = after_load object z cells } in
    let stored : ℤ → BoundedList → BoundedList = λ z s. record s { listed = after_store s.cap object z c.write_cell-cell.result s.listed } in
    let fits : FitsSigned w64 c.granule_of-granule.result = search rules in
    let is : c.granule_of-granule.result ≡ granule c.args.offset = search rules in
    let place : to_z w64 (of_z w64 c.granule_of-granule.result) ≡ granule c.args.offset = to_z-of_z w64 c.granule_of-granule.result fits ∙ is in
    let offset : to_z w64 (of_z w64 c.args.offset) ≡ c.args.offset = to_z-of_z w64 c.args.offset c.ranges.offset in
    let moved : c.load-found.new.self ≡ with_cells (granule c.args.offset) = c.load-found.ensures.moved ∙ ap with_cells place in
    let cell : c.load-found.result ≡ listed_cell object (granule c.args.offset) cells = c.load-found.ensures.cell ∙ ap (λ (z : ℤ). listed_cell object z cells) place in
    let before : content c.cell_or_unset.result ≡ unwrap_or (option_map content (listed_cell object (granule c.args.offset) cells)) unset =
    c.cell_or_unset.ensures ∙ ap (λ (x : Option Cell). unwrap_or (option_map content x) unset) cell in
    let after : content c.write_cell-cell.result ≡ write_cell c.args.kind c.args.offset c.args.w (content c.cell_or_unset.result) =
    c.write_cell-cell.ensures ∙ ap (λ (z : ℤ). write_cell c.args.kind z c.args.w (content c.cell_or_unset.result)) offset in
    let last : c.store.new.self ≡ stored (granule c.args.offset) (with_cells (granule c.args.offset)) =
    c.in_ok-store.ensures.stored ∙ ap (λ (z : ℤ). stored z c.load-found.new.self) place ∙ ap (stored (granule c.args.offset)) moved in
    rw (last, ← c.self.view_is)
    (ap with_list (stored_is cap object (granule c.args.offset) c.args.kind c.args.offset c.args.w cells c.cell_or_unset.result c.write_cell-cell.result before after))
