use Rattle.std.proofs.Common.{◌≡◌, ℕ, ◌==◌, Bool, false, List, sym, ap, ◌∙◌, subst}
use Rattle.std.specs.List.{Contains}
use Rattle.ob_model.specs.declared.objects.Entry.{Entry}
use Rattle.ob_model.specs.declared.objects.Sort.TheVariants.{Heap}
use Rattle.ob_model.specs.Bounded.{surviving_cells}
use Rattle.ob_model.specs.Entries.{Known, with_freed}
use Rattle.ob_model.specs.Heap.{Allocated}
use Rattle.ob_outside.specs.Granules.{Granules}
use Rattle.ob_pointers.specs.Pointing.{Pointing}
use Rattle.ob_lifetimes.specs.Living.{Living}
use Rattle.ob_lifetimes.specs.Kept.{living_in}
use Rattle.ob_lifetimes.proofs.Heaps.{blocks-freed}
use Rattle.ob_lifetimes.proofs.Keeping.{kept_freed}
use Rattle.ob_lifetimes.proofs.Sounding.{all_same, is_placed}
use Rattle.ob_lifetimes.proofs.lifetimes.Lifetimes.keep_freed.Goals as goal

pub free-requires-clause-heap : goal.free-requires-clause-heap
free-requires-clause-heap c =
    let i = c.self.inside in
    let n : Known = record { entry = c.args.entry.now; freed = false } in
    let among : Contains i.pointers.entries n = subst (λ (l : Living). Contains l.entries n) (sym c.self.view_is) c.requires.known in
    (is_placed i.pointers i.shelf i.outside i.most_statics i.statics i.locals i.next c.self.invariant c.stands.ensures n among c.requires.heap).start

pub invariant_of-self : goal.invariant_of-self
invariant_of-self c =
    let i = c.self.inside in
    let k = c.self.invariant in
    let e : Entry = c.args.entry.now in
    let n : Known = record { entry = e; freed = false } in
    let among : Contains i.pointers.entries n = subst (λ (l : Living). Contains l.entries n) (sym c.self.view_is) c.requires.known in
    let heap = all_same i.pointers i.shelf i.outside i.most_statics i.statics i.locals i.next k c.stands.ensures (λ l. l.entry.sort ≡ Heap) n among c.requires.heap in
    rw (c.free.ensures, c.forget.ensures)
    (kept_freed i.pointers i.shelf i.outside i.most_statics i.statics i.locals i.next k e.object heap)

pub returns : goal.returns
returns c =
    let i = c.self.inside in
    let object : ℕ = c.args.entry.now.object in
    let dies : ℕ → Bool = λ other. other == object in
    let view : Pointing → Granules → Living = λ p g. living_in p i.shelf g i.profile i.most_statics i.statics i.locals i.next in
    let marked : Pointing = record i.pointers { entries = with_freed object i.pointers.entries } in
    let less : Granules = record i.outside { listed = surviving_cells dies i.outside.listed } in
    let with_blocks : List Allocated → Living = λ bs. record (view marked less) { blocks = bs } in
    let wanted : Living → Living = λ l. record l { entries = with_freed object l.entries; outside = surviving_cells dies l.outside } in
    ap (λ p. view p c.forget.new.self) c.free.ensures
    ∙ ap (view marked) c.forget.ensures
    ∙ ap with_blocks (blocks-freed object i.pointers.entries)
    ∙ ap wanted c.self.view_is
