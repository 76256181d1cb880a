use Rattle.std.proofs.Common.{◌≡◌, ℕ, ℤ, List, Option, FitsSigned, to_z, of_z, w64, rules, ap, sym, ◌∙◌}
use Rattle.std.specs.Option.{option_map}
use Rattle.std.proofs.lemmas.Int.{to_z-of_z}
use Rattle.ob_model.specs.declared.values.Cell.{Cell}
use Rattle.ob_model.specs.Accesses.{granule}
use Rattle.ob_model.specs.Bounded.{Listed, after_load, listed_cell}
use Rattle.ob_model.specs.Cells.{Content, content}
use Rattle.ob_code.specs.Accesses.{read_listed}
use Rattle.ob_stray.specs.Store.{BoundedList}
use Rattle.ob_outside.specs.Granules.{Granules}
use Rattle.ob_outside.proofs.Lists.{found_mapped, load_mapped}
use Rattle.ob_outside.proofs.outside.Outside.load.Goals as goal

pub returns-clause-word : goal.returns-clause-word
returns-clause-word c =
    let fits : FitsSigned w64 c.granule_of.result = search rules in
    let is : c.granule_of.result ≡ granule c.args.offset = search rules in
    let cell : c.load.result ≡ listed_cell c.args.object (granule c.args.offset) c.self.inside.store.listed =
    c.load.ensures.cell ∙ ap (λ (z : ℤ). listed_cell c.args.object z c.self.inside.store.listed) (to_z-of_z w64 c.granule_of.result fits ∙ is) in
    let word : c.read_found.result ≡ read_listed c.args.kind c.args.offset (option_map content c.load.result) =
    c.read_found.ensures ∙ ap (λ (z : ℤ). read_listed c.args.kind z (option_map content c.load.result)) (to_z-of_z w64 c.args.offset c.ranges.offset) in
    rw (← c.self.view_is)
    (word ∙ ap (λ (x : Option (Content ℕ)). read_listed c.args.kind c.args.offset x)
    (ap (option_map content) cell ∙ sym (found_mapped c.args.object (granule c.args.offset) c.self.inside.store.listed)))

pub returns-clause-moved : goal.returns-clause-moved
returns-clause-moved c =
    let with_list : List (Listed (Content ℕ)) → Granules = λ es. record { cap = c.self.inside.store.cap; listed = es } in
    let with_cells : ℤ → BoundedList = λ z. record c.self.inside.store { listed = after_load c.args.object z c.self.inside.store.listed } in
    let fits : FitsSigned w64 c.granule_of.result = search rules in
    let is : c.granule_of.result ≡ granule c.args.offset = search rules in
    let moved : c.load.new.self ≡ with_cells (granule c.args.offset) = c.load.ensures.moved ∙ ap with_cells (to_z-of_z w64 c.granule_of.result fits ∙ is) in
    rw (moved, ← c.self.view_is) (ap with_list (load_mapped c.args.object (granule c.args.offset) c.self.inside.store.listed))
