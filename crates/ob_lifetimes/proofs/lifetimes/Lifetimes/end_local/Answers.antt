use Rattle.std.proofs.Common.{◌≡◌, ℕ, ◌+◌, ◌-◌, ◌≤◌, ◌==◌, Bool, false, List, arith, refl, sym, ap, ◌∙◌, subst}
use Rattle.std.specs.List.{Contains}
use Rattle.std.proofs.lemmas.Bool.{eq-eqb}
use Rattle.ob_model.specs.Bounded.{surviving_cells}
use Rattle.ob_model.specs.Descriptors.{surviving_pairs}
use Rattle.ob_model.specs.Entries.{Known, surviving_known}
use Rattle.ob_model.specs.Heap.{Allocated, blocks_of}
use Rattle.ob_outside.specs.Granules.{Granules}
use Rattle.ob_pointers.specs.Pointing.{Pointing}
use Rattle.ob_code.specs.Frames.{local_entry}
use Rattle.ob_lifetimes.specs.Living.{Living}
use Rattle.ob_lifetimes.specs.Kept.{elsewhere, heap_blocks, living_in}
use Rattle.ob_lifetimes.proofs.Keeping.{kept_dead}
use Rattle.ob_lifetimes.proofs.Sounding.{blocks_stay}
use Rattle.ob_lifetimes.proofs.Tables.{elsewhere-leaves}
use Rattle.ob_lifetimes.proofs.lifetimes.Lifetimes.end_local.Goals as goal

pub invariant_of-self : goal.invariant_of-self
invariant_of-self c =
    let i = c.self.inside in
    let k = c.self.invariant in
    let object : ℕ = c.args.first + c.args.row.ordinal in
    let dies : ℕ → Bool = λ other. other == object in
    let n : Known = record { entry = local_entry c.args.base c.args.first c.args.row; freed = false } in
    let among : Contains i.pointers.entries n = subst (λ (l : Living). Contains l.entries n) (sym c.self.view_is) c.requires.known in
    let few : 1 ≤ i.locals = subst (λ (l : Living). 1 ≤ l.locals) (sym c.self.view_is) c.requires.few in
    let less : elsewhere (surviving_known dies i.pointers.entries) + 1 ≤ elsewhere i.pointers.entries = elsewhere-leaves dies n i.pointers.entries among (eq-eqb object object refl) refl in
    let stay : heap_blocks (surviving_known dies i.pointers.entries) ≡ heap_blocks i.pointers.entries =
    blocks_stay i.pointers i.shelf i.outside i.most_statics i.statics i.locals i.next k c.stands.ensures n among refl in
    rw (c.die.ensures, c.forget.ensures, c.from.ensures)
    (kept_dead i.pointers i.shelf i.outside i.most_statics i.statics i.locals i.next k dies i.shelf.blocks (i.locals - 1) (omega arith) (omega (arith, less, k.count, few)) (k.blocks ∙ ap blocks_of (sym stay)))

pub returns : goal.returns
returns c =
    let i = c.self.inside in
    let object : ℕ = c.args.first + c.args.row.ordinal in
    let dies : ℕ → Bool = λ other. other == object in
    let n : Known = record { entry = local_entry c.args.base c.args.first c.args.row; freed = false } in
    let among : Contains i.pointers.entries n = subst (λ (l : Living). Contains l.entries n) (sym c.self.view_is) c.requires.known in
    let stay : heap_blocks (surviving_known dies i.pointers.entries) ≡ heap_blocks i.pointers.entries =
    blocks_stay i.pointers i.shelf i.outside i.most_statics i.statics i.locals i.next c.self.invariant c.stands.ensures n among refl in
    let view : Pointing → Granules → Living = λ p g. living_in p i.shelf g i.profile i.most_statics i.statics (i.locals - 1) i.next in
    let fewer : ℕ → Pointing = λ o. record i.pointers { entries = surviving_known (λ other. other == c.args.first + o) i.pointers.entries; slots = surviving_pairs (λ other. other == c.args.first + o) i.pointers.slots } in
    let less : ℕ → Granules = λ o. record i.outside { listed = surviving_cells (λ other. other == c.args.first + o) i.outside.listed } in
    let with_blocks : List Allocated → Living = λ bs. record (view (fewer c.args.row.ordinal) (less c.args.row.ordinal)) { blocks = bs } in
    let wanted : Living → Living = λ l. record l { locals = l.locals - 1; entries = surviving_known dies l.entries; slots = surviving_pairs dies l.slots; outside = surviving_cells dies l.outside } in
    ap (λ p. view p c.forget.new.self) (c.die.ensures ∙ ap fewer c.from.ensures)
    ∙ ap (view (fewer c.args.row.ordinal)) (c.forget.ensures ∙ ap less c.from.ensures)
    ∙ ap with_blocks stay
    ∙ ap wanted c.self.view_is
