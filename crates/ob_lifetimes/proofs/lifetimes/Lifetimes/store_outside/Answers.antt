use Rattle.std.proofs.Common.{◌≡◌, ℕ, ℤ, to_z, of_z, w64, sym, subst, ⊎_elim}
use Rattle.std.specs.Prelude.{unwrap_or}
use Rattle.ob_model.specs.Accesses.{granule}
use Rattle.ob_model.specs.Bounded.{after_store, listed_cell}
use Rattle.ob_model.specs.Cells.{Content, unset}
use Rattle.ob_code.specs.Accesses.{write_cell}
use Rattle.ob_outside.specs.Granules.{Granules}
use Rattle.ob_lifetimes.specs.Living.{IsLive, Living}
use Rattle.ob_lifetimes.specs.Kept.{HasNumber, IsKept}
use Rattle.ob_lifetimes.proofs.Keeping.{kept_cells}
use Rattle.ob_lifetimes.proofs.Moving.{either_way, stored_cells}
use Rattle.ob_lifetimes.proofs.lifetimes.Lifetimes.store_outside.Goals as goal

pub invariant_of-self : goal.invariant_of-self
invariant_of-self c =
    let i = c.self.inside in
    let z : ℤ = to_z w64 (of_z w64 c.args.offset) in
    let cell : Content ℕ = write_cell c.args.kind z c.args.w (unwrap_or (listed_cell c.args.object (granule z) i.outside.listed) unset) in
    let stored : Granules = record i.outside { listed = after_store i.outside.cap c.args.object (granule z) cell i.outside.listed } in
    let live : IsLive c.args.object i.pointers.entries = subst (λ (l : Living). IsLive c.args.object l.entries) (sym c.self.view_is) c.requires.live in
    let has : HasNumber i.pointers.entries c.args.object = record { k = live.0; known = live.1; number = live.2 } in
    let Stays : Granules → Type 0 = λ g. IsKept i.pointers i.shelf g i.most_statics i.statics i.locals i.next in
    ⊎_elim
    (λ ok. subst Stays (sym ok)
    (kept_cells i.pointers i.shelf i.outside i.most_statics i.statics i.locals i.next c.self.invariant (after_store i.outside.cap c.args.object (granule z) cell i.outside.listed)
    (stored_cells i.pointers.entries c.args.object (granule z) i.outside.listed c.self.invariant.cells i.outside.cap cell has)))
    (λ err. subst Stays (sym err) c.self.invariant)
    (either_way c.store.result (c.store.new.self ≡ stored) (c.store.new.self ≡ i.outside) c.store.ensures.stored c.store.ensures.err)
