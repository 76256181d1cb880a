use Rattle.std.proofs.Common.{◌≡◌, ◌+◌, ◌-◌, ◌<◌, arith, length, List, ap, sym, ◌∙◌}
use Rattle.std.specs.Prelude.{remove}
use Rattle.std.specs.List.{All}
use Rattle.ob_model.specs.Heap.{Block, without_place}
use Rattle.ob_shelf.specs.declared.blocks.LiveBlock.{LiveBlock}
use Rattle.ob_shelf.specs.Places.{Places}
use Rattle.ob_shelf.specs.Blocks.{as_blocks, IsInOrder, IsGranular, Lowers, gap_start, gap_end}
use Rattle.ob_shelf.proofs.Edits.{without_place-none, without_place-remove, one_place, AreLaid-remove}
use Rattle.ob_shelf.proofs.HintsHold.{hints_given}
use Rattle.ob_shelf.proofs.shelf.Shelf.give.Goals as goal

pub returns-in-Some : goal.returns-in-Some
returns-in-Some c =
    let in_order : IsInOrder c.as_slice.result.now = rw c.as_slice.ensures.value c.self.invariant.laid.in_order in
    let granular : All IsGranular c.as_slice.result.now = rw c.as_slice.ensures.value c.self.invariant.laid.granular in
    let shelf : List Block → Places = λ bs. record { heap = c.self.inside.heap; blocks = bs } in
    let removed : as_blocks c.remove.new.self.items ≡ without_place c.args.place (as_blocks c.as_slice.result.now) =
    ap (λ (bs : List LiveBlock). as_blocks bs) (c.remove.ensures.items ∙ ap (λ (bs : List LiveBlock). remove bs c.in-Some.index) (sym c.as_slice.ensures.value))
    ∙ without_place-remove c.args.place c.as_slice.result.now c.in-Some.index c.in-Some.ensures.0 c.in-Some.ensures.1
    (one_place c.as_slice.result.now c.in-Some.index c.args.place in_order granular c.in-Some.ensures.0 c.in-Some.ensures.1) in
    rw (← c.self.view_is, ← c.as_slice.ensures.value) (ap shelf removed)

pub returns-in_default : goal.returns-in_default
returns-in_default c =
    let shelf : List Block → Places = λ bs. record { heap = c.self.inside.heap; blocks = bs } in
    rw (← c.self.view_is, ← c.as_slice.ensures.value) (ap shelf (sym (without_place-none c.args.place c.as_slice.result.now c.in_default.ensures)))

pub invariant_of-self : goal.invariant_of-self
invariant_of-self c =
    let within : c.in-Some.index < length c.self.inside.blocks.items = rw (← c.as_slice.ensures.value) c.in-Some.ensures.0 in
    let merged : c.merged_gap-merged.result ≡ gap_end c.self.inside.heap c.self.inside.blocks.items (c.in-Some.index + 1) - gap_start c.self.inside.blocks.items c.in-Some.index = rw (← c.as_slice-in-Some.ensures.value) c.merged_gap-merged.ensures in
    let lowers : Lowers c.self.inside.hints c.lower.new.hints (gap_end c.self.inside.heap c.self.inside.blocks.items (c.in-Some.index + 1) - gap_start c.self.inside.blocks.items c.in-Some.index) c.in-Some.index = rw (← merged) c.lower.ensures in
    record {
      laid = rw c.remove.ensures.items (AreLaid-remove c.self.inside.heap c.self.inside.blocks.items c.in-Some.index c.self.invariant.laid within);
      fit = omega (arith, c.remove.ensures.capacity, c.self.invariant.fit);
      hints_hold = rw c.remove.ensures.items (hints_given c.self.inside.heap c.self.inside.blocks.items c.in-Some.index c.self.inside.hints c.lower.new.hints within c.self.invariant.hints_hold lowers);
      classes = c.lower.ensures.classes ∙ c.self.invariant.classes;
    }
