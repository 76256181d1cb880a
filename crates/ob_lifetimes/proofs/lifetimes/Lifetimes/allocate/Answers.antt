use Rattle.std.proofs.Common.{◌≡◌, ℕ, ◌+◌, ◌-◌, List, arith, ap, ◌∙◌, subst}
use Rattle.std.specs.List.{All}
use Rattle.ob_words.specs.Words.{block}
use Rattle.ob_model.specs.Entries.{with_live}
use Rattle.ob_model.specs.Heap.{Allocated, Apart, Fits, blocks_of, with_block, with_object}
use Rattle.ob_model.specs.Limits.{heap_start}
use Rattle.ob_pointers.specs.Pointing.{Pointing}
use Rattle.ob_shelf.specs.Places.{Places}
use Rattle.ob_lifetimes.specs.Living.{Living}
use Rattle.ob_lifetimes.specs.Kept.{heap_blocks, living_in}
use Rattle.ob_lifetimes.proofs.Heaps.{blocks-allocated, in_heap}
use Rattle.ob_lifetimes.proofs.Keeping.{kept_allocated}
use Rattle.ob_lifetimes.proofs.Rooms.{all_beside, first_fit, none_there, room_in_table}
use Rattle.ob_lifetimes.proofs.lifetimes.Lifetimes.allocate.Goals as goal

pub insert-requires-clause-room : goal.insert-requires-clause-room
insert-requires-clause-room c =
    let i = c.self.inside in
    let k = c.self.invariant in
    let place : ℕ = c.in_ok-place.place in
    let fits : Fits i.shelf.blocks i.shelf.heap (block c.args.n) place = first_fit c.law_first_fit.ensures i.shelf.blocks i.shelf.heap (block c.args.n) place c.in_ok-place.ensures.place in
    let apart : All (Apart place (block c.args.n)) (blocks_of (heap_blocks i.pointers.entries)) = subst (All (Apart place (block c.args.n))) k.blocks fits.apart in
    let most = room_in_table i.shelf.heap place fits.aligned (omega (arith, fits.within)) i.pointers.entries c.stands.ensures.in_order k.places (none_there i.shelf.heap place c.args.n i.pointers.entries k.places apart) in
    omega (arith, most, k.most, k.count, k.few_statics, k.few_locals)

pub insert-requires-clause-apart : goal.insert-requires-clause-apart
insert-requires-clause-apart c =
    let i = c.self.inside in
    let k = c.self.invariant in
    let place : ℕ = c.in_ok-place.place in
    let fits : Fits i.shelf.blocks i.shelf.heap (block c.args.n) place = first_fit c.law_first_fit.ensures i.shelf.blocks i.shelf.heap (block c.args.n) place c.in_ok-place.ensures.place in
    let apart : All (Apart place (block c.args.n)) (blocks_of (heap_blocks i.pointers.entries)) = subst (All (Apart place (block c.args.n))) k.blocks fits.apart in
    all_beside i.shelf.heap place c.args.n i.pointers.entries k.places apart i.next

pub invariant_of-self-2 : goal.invariant_of-self-2
invariant_of-self-2 c =
    let i = c.self.inside in
    let k = c.self.invariant in
    let place : ℕ = c.in_ok-place.place in
    let fits : Fits i.shelf.blocks i.shelf.heap (block c.args.n) place = first_fit c.law_first_fit.ensures i.shelf.blocks i.shelf.heap (block c.args.n) place c.in_ok-place.ensures.place in
    rw (c.insert.ensures, c.in_ok-place.ensures.taken)
    (kept_allocated i.pointers i.shelf i.outside i.most_statics i.statics i.locals i.next k place c.args.n c.law_heap_blocks.ensures.inserted fits.aligned fits.within)

pub returns-clause-made : goal.returns-clause-made
returns-clause-made c =
    let i = c.self.inside in
    let place : ℕ = c.in_ok-place.place in
    let n : ℕ = c.args.n in
    let view : Pointing → Places → Living = λ p s. living_in p s i.outside i.profile i.most_statics i.statics i.locals (i.next + 1) in
    let more : Pointing = record i.pointers { entries = with_live (in_heap (heap_start + place) n i.next) i.pointers.entries } in
    let taken : Places = record i.shelf { blocks = with_block (record { place = place; length = block n }) i.shelf.blocks } in
    let with_blocks : List Allocated → Living = λ bs. record (view more taken) { blocks = bs } in
    let with_place : ℕ → Living = λ q. with_blocks (with_object i.next q n (heap_blocks i.pointers.entries)) in
    let wanted : Living → Living = λ l. record l { entries = with_live (in_heap (heap_start + place) n l.next) l.entries; blocks = with_object l.next place n l.blocks; next = l.next + 1 } in
    let back : heap_start + place - heap_start ≡ place = omega arith in
    ap (λ p. view p c.take.new.self) c.insert.ensures
    ∙ ap (view more) c.in_ok-place.ensures.taken
    ∙ ap with_blocks (blocks-allocated i.shelf.heap (heap_start + place) n i.next (omega arith) i.pointers.entries c.self.invariant.places)
    ∙ ap with_place back
    ∙ ap wanted c.self.view_is
