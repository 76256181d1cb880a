use Rattle.std.proofs.Common.{◌≤◌, ◌<◌, ◌^◌, Some, rules, w64, sym, ap, ◌∙◌, subst, arith}
use Rattle.std.specs.Prelude.{FitsSigned, unsigned_abs, ◌+ℤ◌, ◌*ℤ◌}
use Rattle.std.proofs.lemmas.Int.{ints, to_z-of_z}
use borrow.Author.Differences.{abs_is}
use Rattle.ob_words.specs.Words.{word}
use Rattle.ob_words.specs.declared.types.IntType.TheVariants.{Long}
use Rattle.ob_model.specs.Pointers.{difference}
use Rattle.ob_code.specs.Layout.{local_base, static_base, wiped}
use Rattle.ob_code.specs.Machine.{act_on, at_zero, calling, get, get_number, jump, on, pointer_in, set_word, slide, ticked}
use Rattle.ob_code.specs.State.{goes}
use Rattle.ob_machine.specs.Executions.{Is, setup, state_of}
use Rattle.ob_machine.proofs.Placed.{below}
use Rattle.ob_machine.proofs.ShownRows.{few_top_locals}
use Rattle.ob_machine.proofs.Words.{wide_is}
use Rattle.ob_machine.proofs.execution.Execution.act.Goals as goal

pub returns-in-Set-clause-effect : goal.returns-in-Set-clause-effect
returns-in-Set-clause-effect c =
    let fits : FitsSigned w64 c.in-Set.imm = search rules in
    let small : unsigned_abs c.in-Set.imm ≤ 2 ^ 63 = omega (arith, ints, abs_is c.in-Set.imm, fits.sfits) in
    let value = c.word.ensures ∙ ap word (wide_is c.in-Set.imm fits small) in
    λ cycle input_end r. ap (λ o. act_on (setup c.args.image.now c.args.self.now.space.settings cycle input_end) o (state_of c.args.self.now r)) (c.fetch.ensures.is ∙ ap Some c.in-Set.is)
    ∙ ap (set_word (state_of c.args.self.now r) c.in-Set.a) (sym value)
    ∙ c.set_word.ensures.state r

pub returns-in-Move-clause-effect : goal.returns-in-Move-clause-effect
returns-in-Move-clause-effect c =
    λ cycle input_end r. ap (λ o. act_on (setup c.args.image.now c.args.self.now.space.settings cycle input_end) o (state_of c.args.self.now r)) (c.fetch.ensures.is ∙ ap Some c.in-Move.is)
    ∙ ap (set_word (state_of c.args.self.now r) c.in-Move.a) (sym c.word-w.ensures)
    ∙ c.set_word-in-Move.ensures.state r

pub returns-in-Convert-clause-effect : goal.returns-in-Convert-clause-effect
returns-in-Convert-clause-effect c =
    λ cycle input_end r. ap (λ o. act_on (setup c.args.image.now c.args.self.now.space.settings cycle input_end) o (state_of c.args.self.now r)) (c.fetch.ensures.is ∙ ap Some c.in-Convert.is)
    ∙ c.convert.ensures.state r

pub returns-in-Compare-clause-effect : goal.returns-in-Compare-clause-effect
returns-in-Compare-clause-effect c =
    λ cycle input_end r. ap (λ o. act_on (setup c.args.image.now c.args.self.now.space.settings cycle input_end) o (state_of c.args.self.now r)) (c.fetch.ensures.is ∙ ap Some c.in-Compare.is)
    ∙ c.compare.ensures.state r

pub returns-in-JumpZero-clause-effect : goal.returns-in-JumpZero-clause-effect
returns-in-JumpZero-clause-effect c =
    let fits : FitsSigned w64 c.in-JumpZero.imm = search rules in
    λ cycle input_end r. ap (λ o. act_on (setup c.args.image.now c.args.self.now.space.settings cycle input_end) o (state_of c.args.self.now r)) (c.fetch.ensures.is ∙ ap Some c.in-JumpZero.is)
    ∙ ap (λ z. at_zero (get (state_of c.args.self.now r) c.in-JumpZero.b) (goes (jump (unsigned_abs z) (state_of c.args.self.now r))) (goes (on (state_of c.args.self.now r)))) (sym (to_z-of_z w64 c.in-JumpZero.imm fits))
    ∙ c.jump_zero.ensures.state r

pub returns-in-JumpNonzero-clause-effect : goal.returns-in-JumpNonzero-clause-effect
returns-in-JumpNonzero-clause-effect c =
    let fits : FitsSigned w64 c.in-JumpNonzero.imm = search rules in
    λ cycle input_end r. ap (λ o. act_on (setup c.args.image.now c.args.self.now.space.settings cycle input_end) o (state_of c.args.self.now r)) (c.fetch.ensures.is ∙ ap Some c.in-JumpNonzero.is)
    ∙ ap (λ z. at_zero (get (state_of c.args.self.now r) c.in-JumpNonzero.b) (goes (on (state_of c.args.self.now r))) (goes (jump (unsigned_abs z) (state_of c.args.self.now r)))) (sym (to_z-of_z w64 c.in-JumpNonzero.imm fits))
    ∙ c.jump_nonzero.ensures.state r

pub returns-in-Call-clause-effect : goal.returns-in-Call-clause-effect
returns-in-Call-clause-effect c =
    let fits : FitsSigned w64 c.in-Call.imm = search rules in
    λ cycle input_end r. subst (λ x. Is c.tick_and_call.result x c.tick_and_call.new.self r)
    (ap (λ z. ticked c.args.self.now.steps (state_of c.args.self.now r) (λ t. calling c.args.image.now (unsigned_abs z) c.in-Call.b t)) (to_z-of_z w64 c.in-Call.imm fits)
    ∙ sym (ap (λ o. act_on (setup c.args.image.now c.args.self.now.space.settings cycle input_end) o (state_of c.args.self.now r)) (c.fetch.ensures.is ∙ ap Some c.in-Call.is)))
    (c.tick_and_call.ensures.state r)

pub returns-in-Slide-clause-effect : goal.returns-in-Slide-clause-effect
returns-in-Slide-clause-effect c =
    let fits : FitsSigned w64 c.in-Slide.imm = search rules in
    λ cycle input_end r. subst (λ x. Is c.slide_by_size.result x c.slide_by_size.new.self r)
    (ap (λ z. slide (get_number Long (state_of c.args.self.now r) c.in-Slide.b +ℤ z *ℤ get_number Long (state_of c.args.self.now r) c.in-Slide.c) c.in-Slide.a (state_of c.args.self.now r)) (to_z-of_z w64 c.in-Slide.imm fits)
    ∙ sym (ap (λ o. act_on (setup c.args.image.now c.args.self.now.space.settings cycle input_end) o (state_of c.args.self.now r)) (c.fetch.ensures.is ∙ ap Some c.in-Slide.is)))
    (c.slide_by_size.ensures.state r)

pub returns-in-SlideBy-clause-effect : goal.returns-in-SlideBy-clause-effect
returns-in-SlideBy-clause-effect c =
    let fits : FitsSigned w64 c.in-SlideBy.imm = search rules in
    λ cycle input_end r. subst (λ x. Is c.slide_by_offset.result x c.slide_by_offset.new.self r)
    (ap (λ z. slide (get_number Long (state_of c.args.self.now r) c.in-SlideBy.b +ℤ z) c.in-SlideBy.a (state_of c.args.self.now r)) (to_z-of_z w64 c.in-SlideBy.imm fits)
    ∙ sym (ap (λ o. act_on (setup c.args.image.now c.args.self.now.space.settings cycle input_end) o (state_of c.args.self.now r)) (c.fetch.ensures.is ∙ ap Some c.in-SlideBy.is)))
    (c.slide_by_offset.ensures.state r)

pub natural-requires-in-Local : goal.natural-requires-in-Local
natural-requires-in-Local c =
    let image = c.args.image.now in
    let fits : FitsSigned w64 c.in-Local.imm = search rules in
    let few = few_top_locals image c.args.self.now.space.space.calls c.args.self.now.counter c.requires.verified c.requires.ready.placed.innermost in
    let under = below _ c.in-Local.imm c.in-Local.ensures.operands.1 in
    subst (λ z. unsigned_abs z < 4294967296) (sym (to_z-of_z w64 c.in-Local.imm fits)) (omega (arith, few, under))

pub natural-requires-in-Wipe : goal.natural-requires-in-Wipe
natural-requires-in-Wipe c =
    let image = c.args.image.now in
    let fits : FitsSigned w64 c.in-Wipe.imm = search rules in
    let few = few_top_locals image c.args.self.now.space.space.calls c.args.self.now.counter c.requires.verified c.requires.ready.placed.innermost in
    let under = below _ c.in-Wipe.imm c.in-Wipe.ensures.operands in
    subst (λ z. unsigned_abs z < 4294967296) (sym (to_z-of_z w64 c.in-Wipe.imm fits)) (omega (arith, few, under))

pub returns-in-Static-clause-effect : goal.returns-in-Static-clause-effect
returns-in-Static-clause-effect c =
    let fits : FitsSigned w64 c.in-Static.imm = search rules in
    let number = c.natural.ensures ∙ ap unsigned_abs (to_z-of_z w64 c.in-Static.imm fits) in
    λ cycle input_end r. ap (λ o. act_on (setup c.args.image.now c.args.self.now.space.settings cycle input_end) o (state_of c.args.self.now r)) (c.fetch.ensures.is ∙ ap Some c.in-Static.is)
    ∙ (λ i. set_word (state_of c.args.self.now r) c.in-Static.a (static_base (sym c.requires.ready.statics i) (sym number i)))
    ∙ c.take_static.ensures.state r

pub returns-in-Local-clause-effect : goal.returns-in-Local-clause-effect
returns-in-Local-clause-effect c =
    let fits : FitsSigned w64 c.in-Local.imm = search rules in
    let row = c.natural-in-Local.ensures ∙ ap unsigned_abs (to_z-of_z w64 c.in-Local.imm fits) in
    λ cycle input_end r. ap (λ o. act_on (setup c.args.image.now c.args.self.now.space.settings cycle input_end) o (state_of c.args.self.now r)) (c.fetch.ensures.is ∙ ap Some c.in-Local.is)
    ∙ (λ i. set_word (state_of c.args.self.now r) c.in-Local.a (local_base (sym c.requires.ready.rows i) c.args.self.now.space.space (sym row i)))
    ∙ c.take_local.ensures.state r

pub returns-in-Wipe-clause-effect : goal.returns-in-Wipe-clause-effect
returns-in-Wipe-clause-effect c =
    let fits : FitsSigned w64 c.in-Wipe.imm = search rules in
    let row = c.natural-in-Wipe.ensures ∙ ap unsigned_abs (to_z-of_z w64 c.in-Wipe.imm fits) in
    λ cycle input_end r. ap (λ o. act_on (setup c.args.image.now c.args.self.now.space.settings cycle input_end) o (state_of c.args.self.now r)) (c.fetch.ensures.is ∙ ap Some c.in-Wipe.is)
    ∙ (λ i. goes (on (record (state_of c.args.self.now r) { space = wiped (sym c.requires.ready.rows i) (sym row i) c.args.self.now.space.space })))
    ∙ ap goes (c.wipe.ensures.state r)

pub returns-in-Same-clause-effect : goal.returns-in-Same-clause-effect
returns-in-Same-clause-effect c =
    λ cycle input_end r. ap (λ o. act_on (setup c.args.image.now c.args.self.now.space.settings cycle input_end) o (state_of c.args.self.now r)) (c.fetch.ensures.is ∙ ap Some c.in-Same.is)
    ∙ c.same.ensures.state r

pub returns-in-Order-clause-effect : goal.returns-in-Order-clause-effect
returns-in-Order-clause-effect c =
    λ cycle input_end r. ap (λ o. act_on (setup c.args.image.now c.args.self.now.space.settings cycle input_end) o (state_of c.args.self.now r)) (c.fetch.ensures.is ∙ ap Some c.in-Order.is)
    ∙ c.order.ensures.state r

pub returns-in-Difference-clause-effect : goal.returns-in-Difference-clause-effect
returns-in-Difference-clause-effect c =
    let fits : FitsSigned w64 c.in-Difference.imm = search rules in
    let size = c.natural-in-Difference.ensures ∙ ap unsigned_abs (to_z-of_z w64 c.in-Difference.imm fits) in
    λ cycle input_end r. ap (λ o. act_on (setup c.args.image.now c.args.self.now.space.settings cycle input_end) o (state_of c.args.self.now r)) (c.fetch.ensures.is ∙ ap Some c.in-Difference.is)
    ∙ (λ i. set_word (state_of c.args.self.now r) c.in-Difference.a (word (difference (sym size i) (pointer_in (state_of c.args.self.now r) c.in-Difference.b) (pointer_in (state_of c.args.self.now r) c.in-Difference.c))))
    ∙ c.difference.ensures.state r

pub returns-in-Malloc-clause-effect : goal.returns-in-Malloc-clause-effect
returns-in-Malloc-clause-effect c =
    λ cycle input_end r. subst (λ x. Is c.malloc.result x c.malloc.new.self r)
    (sym (ap (λ o. act_on (setup c.args.image.now c.args.self.now.space.settings cycle input_end) o (state_of c.args.self.now r)) (c.fetch.ensures.is ∙ ap Some c.in-Malloc.is)))
    (c.malloc.ensures.state r)

pub returns-in-Calloc-clause-effect : goal.returns-in-Calloc-clause-effect
returns-in-Calloc-clause-effect c =
    λ cycle input_end r. subst (λ x. Is c.calloc.result x c.calloc.new.self r)
    (sym (ap (λ o. act_on (setup c.args.image.now c.args.self.now.space.settings cycle input_end) o (state_of c.args.self.now r)) (c.fetch.ensures.is ∙ ap Some c.in-Calloc.is)))
    (c.calloc.ensures.state r)

pub returns-in-Exit-clause-effect : goal.returns-in-Exit-clause-effect
returns-in-Exit-clause-effect c =
    λ cycle input_end r. subst (λ x. Is c.exit.result x c.exit.new.self r)
    (sym (ap (λ o. act_on (setup c.args.image.now c.args.self.now.space.settings cycle input_end) o (state_of c.args.self.now r)) (c.fetch.ensures.is ∙ ap Some c.in-Exit.is)))
    (c.exit.ensures.state r)
