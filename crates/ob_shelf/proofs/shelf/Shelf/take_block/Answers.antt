use Rattle.std.proofs.Common.{◌≡◌, List, Some, arith, ap, ◌∙◌}
use Rattle.std.specs.Prelude.{insert}
use Rattle.std.proofs.lemmas.Grind.{common_steps}
use Rattle.ob_model.specs.Heap.{Block}
use Rattle.ob_shelf.specs.declared.blocks.LiveBlock.{LiveBlock}
use Rattle.ob_shelf.specs.Places.{Places}
use Rattle.ob_shelf.specs.Blocks.{as_blocks, IsFirstGap, gap_start}
use Rattle.ob_shelf.proofs.Edits.{few_blocks}
use Rattle.ob_shelf.proofs.Taken.{AreLaid-taken, with_block-taken}
use Rattle.ob_shelf.proofs.HintsHold.{hints_taken}
use Rattle.ob_shelf.proofs.shelf.Shelf.take_block.Goals as goal

pub invariant_of-self : goal.invariant_of-self
invariant_of-self c =
    let few = few_blocks c.self.inside.heap c.self.inside.blocks.items c.self.invariant.laid in
    let entered : c.insert.new.self.items ≡ insert c.self.inside.blocks.items c.in_ok-index.index (record { place = c.gap_start-place.result; length = c.args.size }) = grind (arith, common_steps) in
    let gap : IsFirstGap c.self.inside.heap c.self.inside.blocks.items c.args.size (Some c.in_ok-index.index) = rw (← c.as_slice.ensures.value) c.in_ok-index.ensures.gap in
    let place : c.gap_start-place.result ≡ gap_start c.self.inside.blocks.items c.in_ok-index.index = c.gap_start-place.ensures.value ∙ ap (λ (bs : List LiveBlock). gap_start bs c.in_ok-index.index) c.as_slice-2.ensures.value in
    record {
      laid = rw entered (AreLaid-taken c.self.inside.heap c.self.inside.blocks.items c.args.size c.in_ok-index.index c.gap_start-place.result c.self.invariant.laid gap place c.requires.least c.requires.whole);
      fit = omega (arith, c.insert.ensures.capacity, c.self.invariant.fit);
      hints_hold = rw entered (hints_taken c.self.inside.heap c.self.inside.blocks.items c.args.size c.in_ok-index.index c.gap_start-place.result c.self.inside.hints c.raise.new.hints gap place c.self.invariant.hints_hold c.raise.ensures);
      classes = c.raise.ensures.classes ∙ c.self.invariant.classes;
    }

pub returns-clause-taken : goal.returns-clause-taken
returns-clause-taken c =
    let few = few_blocks c.self.inside.heap c.self.inside.blocks.items c.self.invariant.laid in
    let entered : c.insert.new.self.items ≡ insert c.self.inside.blocks.items c.in_ok-index.index (record { place = c.gap_start-place.result; length = c.args.size }) = grind (arith, common_steps) in
    let gap : IsFirstGap c.self.inside.heap c.self.inside.blocks.items c.args.size (Some c.in_ok-index.index) = rw (← c.as_slice.ensures.value) c.in_ok-index.ensures.gap in
    let place : c.gap_start-place.result ≡ gap_start c.self.inside.blocks.items c.in_ok-index.index = c.gap_start-place.ensures.value ∙ ap (λ (bs : List LiveBlock). gap_start bs c.in_ok-index.index) c.as_slice-2.ensures.value in
    let shelf : List Block → Places = λ bs. record { heap = c.self.inside.heap; blocks = bs } in
    rw (← c.self.view_is) (ap shelf (ap (λ (bs : List LiveBlock). as_blocks bs) entered
    ∙ with_block-taken c.self.inside.heap c.self.inside.blocks.items c.args.size c.in_ok-index.index c.gap_start-place.result c.self.invariant.laid gap place c.requires.least))
