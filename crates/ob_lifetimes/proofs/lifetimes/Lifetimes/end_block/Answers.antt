use Rattle.std.proofs.Common.{◌≡◌, ℕ, ◌-◌, ◌==◌, Bool, false, List, arith, sym, ap, ◌∙◌, subst}
use Rattle.std.specs.List.{Contains}
use Rattle.ob_model.specs.declared.objects.Entry.{Entry}
use Rattle.ob_model.specs.Bounded.{surviving_cells}
use Rattle.ob_model.specs.Descriptors.{surviving_pairs}
use Rattle.ob_model.specs.Entries.{Known, surviving_known}
use Rattle.ob_model.specs.Heap.{Allocated, blocks_of, surviving_blocks, without_place}
use Rattle.ob_model.specs.Limits.{heap_start}
use Rattle.ob_outside.specs.Granules.{Granules}
use Rattle.ob_pointers.specs.Pointing.{Pointing}
use Rattle.ob_shelf.specs.Places.{Places}
use Rattle.ob_lifetimes.specs.Living.{Living}
use Rattle.ob_lifetimes.specs.Kept.{heap_blocks, living_in}
use Rattle.ob_lifetimes.proofs.Heaps.{blocks-survive}
use Rattle.ob_lifetimes.proofs.Keeping.{kept_dead}
use Rattle.ob_lifetimes.proofs.Sounding.{blocks_agree}
use Rattle.ob_lifetimes.proofs.Tables.{elsewhere-survives}
use Rattle.ob_lifetimes.proofs.lifetimes.Lifetimes.end_block.Goals as goal

pub invariant_of-self : goal.invariant_of-self
invariant_of-self c =
    let i = c.self.inside in
    let k = c.self.invariant in
    let e : Entry = c.args.entry.now in
    let dies : ℕ → Bool = λ other. other == e.object in
    let n : Known = record { entry = e; freed = false } in
    let among : Contains i.pointers.entries n = subst (λ (l : Living). Contains l.entries n) (sym c.self.view_is) c.requires.known in
    let agree = blocks_agree i.pointers i.shelf i.outside i.most_statics i.statics i.locals i.next k c.stands.ensures n among c.requires.heap in
    let place : ℕ = e.base - heap_start in
    let same : without_place place i.shelf.blocks ≡ blocks_of (heap_blocks (surviving_known dies i.pointers.entries)) =
    ap (without_place place) k.blocks
    ∙ sym (c.law_heap_blocks.ensures.leaves e.object place (heap_blocks i.pointers.entries) agree)
    ∙ ap blocks_of (sym (blocks-survive dies i.pointers.entries)) in
    rw (c.die.ensures, c.give.ensures, c.forget.ensures)
    (kept_dead i.pointers i.shelf i.outside i.most_statics i.statics i.locals i.next k dies (without_place place i.shelf.blocks) i.locals (omega arith) (omega (arith, elsewhere-survives dies i.pointers.entries, k.count)) same)

pub returns : goal.returns
returns c =
    let i = c.self.inside in
    let dies : ℕ → Bool = λ other. other == c.args.entry.now.object in
    let view : Pointing → Places → Granules → Living = λ p s g. living_in p s g i.profile i.most_statics i.statics i.locals i.next in
    let fewer : Pointing = record i.pointers { entries = surviving_known dies i.pointers.entries; slots = surviving_pairs dies i.pointers.slots } in
    let given : Places = record i.shelf { blocks = without_place (c.args.entry.now.base - heap_start) i.shelf.blocks } in
    let less : Granules = record i.outside { listed = surviving_cells dies i.outside.listed } in
    let with_blocks : List Allocated → Living = λ bs. record (view fewer given less) { blocks = bs } in
    let wanted : Living → Living = λ l. record l { entries = surviving_known dies l.entries; slots = surviving_pairs dies l.slots; blocks = surviving_blocks dies l.blocks; outside = surviving_cells dies l.outside } in
    ap (λ p. view p c.give.new.self c.forget.new.self) c.die.ensures
    ∙ ap (λ s. view fewer s c.forget.new.self) c.give.ensures
    ∙ ap (view fewer given) c.forget.ensures
    ∙ ap with_blocks (blocks-survive dies i.pointers.entries)
    ∙ ap wanted c.self.view_is
